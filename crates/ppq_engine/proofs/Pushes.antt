-- Lines of sessions: what they push, and how they are given batch by batch to the passes of a bulk session.
use Rattle.std.proofs.Common.{◌≡◌, ℕ, zero, suc, ◌+◌, ◌<◌, ◌≤◌, Bool, true, false, take, List, [], ◌∷◌, ◌++◌, All, length, refl, sym, ap, ◌∙◌, subst, arith, append_assoc, append-nil, length-append}
use Rattle.std.specs.Prelude.{◌==◌, nat_lt, get_or, flat_map}
use Rattle.std.proofs.lemmas.Bool.{and_parts, ltb-true}
use Rattle.std.proofs.lemmas.List.{map-append, take_more}
use Rattle.std.proofs.lemmas.List.Concat.{flat_map-append}
use Rattle.std.proofs.lemmas.List.Elements.{All-nil, All-cons, All-append}
use Rattle.ppq_script.specs.Words.{Words}
use Rattle.ppq_script.specs.ppq_outside.Shown.{Shown}
use Rattle.ppq_script.specs.declared.command.Command.{Command}
use Rattle.ppq_script.specs.declared.command.Command.TheVariants.{BulkPush, LimitPush}
use Rattle.ppq_script.specs.declared.session.Session.{Session}
use Rattle.ppq_script.specs.declared.numbered.Numbered.{Numbered}
use Rattle.ppq_script.specs.Parts.{AreLines, commands_of}
use Rattle.ppq_script.specs.Sessions.{is_in_bulk, is_at_limit, may_stand}
use Rattle.ppq_load.specs.ppq_queue.Holding.{Holding}
use Rattle.ppq_load.specs.ppq_session.declared.line.Line.{Line}
use Rattle.ppq_load.specs.ppq_session.Dealing.{IsGoing, records_in}
use Rattle.ppq_load.specs.Loading.{SessionHolding, InSession}
use Rattle.ppq_engine.specs.Pushes.{line_by, lines_in, pushed_in, IsPushing, GivesLines}

-- a list that is not empty has an item
pub some_left : (n : ℕ) (b : Bool) → b ≡ (n == 0) → b ≡ false → 0 < n
some_left zero b is not_empty = cc
some_left (suc n) b is not_empty = omega arith

-- what lines behind others push
pub pushed-append : {R : Type 0} (cs ds : List (Command R)) → pushed_in (cs ++ ds) ≡ pushed_in cs ++ pushed_in ds
pushed-append {R} cs ds = ap (λ (ls : List (Line R)). records_in ls) (flat_map-append line_by cs ds) ∙ map-append (λ (l : Line R). l.record) (lines_in cs) (lines_in ds)

-- what one line more brings
pub by-more : {R : Type 0} {X : Type 0} (by : Command R → List X) (items : List (Numbered R)) (i : ℕ) (d : Numbered R) → i < length items
    → flat_map by (commands_of (take (i + 1) items)) ≡ flat_map by (commands_of (take i items)) ++ by (get_or items i d).command
by-more {R} {X} by items i d h =
    let c = (get_or items i d).command in
    let had = commands_of (take i items) in
    ap (λ (xs : List (Numbered R)). flat_map by (commands_of xs)) (take_more items i d h) ∙ ap (flat_map by) (map-append (λ (n : Numbered R). n.command) (take i items) (get_or items i d ∷ [])) ∙ flat_map-append by had (c ∷ [])
    ∙ ap (λ (xs : List X). flat_map by had ++ xs) (append-nil (by c))

module _ {R : Type 0} (w : Words R) (workers : ℕ) (session : Session R) where
  -- the first lines, and those behind them
  lines-parts : (cs ds : List (Command R)) → AreLines w workers session (cs ++ ds) → AreLines w workers session cs × AreLines w workers session ds
  lines-parts [] ds are = (tt, are)
  lines-parts (c ∷ cs) ds are = let rest = lines-parts cs ds are.1 in ((are.0, rest.0), rest.1)

  pub lines-split : (cs ds all : List (Command R)) → all ≡ cs ++ ds → AreLines w workers session all → AreLines w workers session cs × AreLines w workers session ds
  lines-split cs ds all e are = lines-parts cs ds (subst (AreLines w workers session) e are)

  -- the passes that lines name are there
  abbrev Names : Line R → Type 0
  Names line = line.pass < workers

  one-named : (pass : ℕ) (item : R) → nat_lt pass workers ≡ true → All Names (record { pass = pass; «record» = item } ∷ [])
  one-named pass item e = All-cons Names (record { pass = pass; «record» = item }) [] (ltb-true pass workers e) (All-nil Names)

  line-named : (c : Command R) → may_stand w workers session c ≡ true → All Names (line_by c)
  line-named (BulkPush pass item) stands = one-named pass item (and_parts (is_in_bulk session) (nat_lt pass workers) stands).1
  line-named (LimitPush pass item) stands = one-named pass item (and_parts (is_at_limit w session item) (nat_lt pass workers) stands).1
  line-named _ stands = All-nil Names

  pub lines-named : (cs : List (Command R)) → AreLines w workers session cs → All Names (lines_in cs)
  lines-named [] are = All-nil Names
  lines-named (c ∷ cs) are = All-append Names (line_by c) (lines_in cs) (line-named c are.0.stands) (lines-named cs are.1)

module _ {R : Type 0} {S : Type 0} (shown : S → Shown) (lines : List (Command R)) (old : SessionHolding S R) where
  pub pushing-begin : IsPushing shown lines lines old old
  pushing-begin = record { given = []; all = refl; session = λ queue s. s }

  -- a batch more was given
  pub pushing-more : (rest first behind : List (Command R)) (given : List (Line R)) (mid new : SessionHolding S R) → IsPushing shown lines rest old mid → rest ≡ first ++ behind → given ≡ lines_in first
      → ((queue : Holding R) (records : List R) → InSession shown queue records mid → InSession shown queue (records ++ records_in given) new) → IsPushing shown lines behind old new
  pushing-more rest first behind given mid new p e is more = record {
    given = p.given ++ first;
    all = p.all ∙ ap (λ (cs : List (Command R)). p.given ++ cs) e ∙ sym (append_assoc p.given first behind);
    session =
        λ queue s.
        let P : List R → Type 0 = λ xs. InSession shown queue xs new in
        let same : pushed_in p.given ++ records_in given ≡ pushed_in (p.given ++ first) = ap (λ (ls : List (Line R)). pushed_in p.given ++ records_in ls) is ∙ sym (pushed-append p.given first) in
        subst P same (more queue (pushed_in p.given) (p.session queue s));
  }

  -- what the passes of a session that was ended had been given: all, where no pass has stopped
  pub given-some : (new : SessionHolding S R) (g : GivesLines shown lines old new) → length (pushed_in g.pushing.given) ≤ length (pushed_in lines)
  given-some new g =
      let given = g.pushing.given in
      omega (arith, ap (λ (cs : List (Command R)). length (pushed_in cs)) g.pushing.all, ap (λ (xs : List R). length xs) (pushed-append given g.rest), length-append (pushed_in given) (pushed_in g.rest))

  pub given-all : (new : SessionHolding S R) (g : GivesLines shown lines old new) → All IsGoing new.passes → g.pushing.given ≡ lines
  given-all new g going = sym (g.pushing.all ∙ ap (λ (cs : List (Command R)). g.pushing.given ++ cs) (g.whole going) ∙ append-nil g.pushing.given)
