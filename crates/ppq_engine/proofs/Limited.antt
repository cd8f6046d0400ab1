-- A limit session that is run batch by batch: what its passes were given, what was asked of its front, and what is gathered.
use Rattle.std.proofs.Common.{◌≡◌, ℕ, ◌+◌, List, [], ◌++◌, length, take, drop, Option, None, refl, sym, ap, ◌∙◌, subst, inl, inr, append_assoc, append-nil, take-append-drop}
use Rattle.std.proofs.Math.Seq.{take-length}
use Rattle.std.proofs.lemmas.List.Concat.{flat_map-append}
use Rattle.ppq_script.specs.Words.{Words}
use Rattle.ppq_script.specs.declared.form.Form.{Form}
use Rattle.ppq_script.specs.ppq_outside.Shown.{Shown, AllTell}
use Rattle.ppq_script.specs.ppq_outside.Told.{TakesPart}
use Rattle.ppq_script.proofs.ppq_outside.Takes.{takes_and_part, part_of_more}
use Rattle.ppq_script.specs.declared.command.Command.{Command}
use Rattle.ppq_load.specs.ppq_pass.Passed.{PassHolding}
use Rattle.ppq_load.specs.ppq_queue.Holding.{Holding}
use Rattle.ppq_load.specs.ppq_session.declared.line.Line.{Line}
use Rattle.ppq_load.specs.ppq_session.Dealing.{IsGoing, HasEnded, records_in}
use Rattle.ppq_load.specs.ppq_session.declared.ask.Ask.{Ask}
use Rattle.ppq_load.specs.ppq_session.Asks.{pops_in, left_after, answers_to}
use Rattle.ppq_load.specs.ppq_session.LimitSessions.{LimitSessionHolding, InLimits, AreGoing, HasStopped}
use Rattle.ppq_engine.specs.Gathers.{Gathers}
use Rattle.ppq_engine.specs.Output.{limited_text}
use Rattle.ppq_engine.specs.Pushes.{lines_in, pushed_in}
use Rattle.ppq_engine.specs.Limits.{ask_by, asks_in, answers_text, answers_of, HasDone, HasJustBegun, RunsBatch, RunsLines, BreaksOff}
use Rattle.ppq_engine.proofs.Asked.{pops_in-append, left_after-append, answers_to-append, length-answers_to}
use Rattle.ppq_engine.proofs.Popped.{gathers-more, gathers-nothing}
use Rattle.ppq_engine.proofs.Pushes.{pushed-append}

-- a pass that goes on has not ended
going-not_ended : {R : Type 0} {S : Type 0} (pass : PassHolding S R) → IsGoing pass → HasEnded pass → ⊥
going-not_ended pass going (inl refused) = let a = going.unrefused in cc
going-not_ended pass going (inr failed) = let a = going.sound in let b = failed.1 in cc

-- nor has a session stopped that goes on
pub going-not_stopped : {R : Type 0} {S : Type 0} (session : LimitSessionHolding S R) → AreGoing session → HasStopped session → ⊥
going-not_stopped {R} {S} session going (inl any) =
    let P : PassHolding S R → Type 0 = λ p. IsGoing p in
    going-not_ended any.1 (subst P any.3 (going.passes any.0 any.1 any.2)) any.4
going-not_stopped session going (inr failed) = let a = going.front in let b = failed.1 in cc

-- the answers to asks behind others
pub answers-append : {R : Type 0} (w : Words R) (form : Form) (limit : R) (bag : List R) (cs ds : List (Command R)) → answers_of w form limit bag (cs ++ ds) ≡ answers_of w form limit bag cs ++ answers_of w form limit (left_after w.cmp limit bag (asks_in cs)) ds
answers-append w form limit bag cs ds =
    ap (λ (asks : List Ask). answers_text w form (answers_to w.cmp limit bag asks)) (flat_map-append ask_by cs ds) ∙ ap (answers_text w form) (answers_to-append w limit bag (asks_in cs) (asks_in ds))
    ∙ flat_map-append (limited_text w form) (answers_to w.cmp limit bag (asks_in cs)) (answers_to w.cmp limit (left_after w.cmp limit bag (asks_in cs)) (asks_in ds))

-- what was gathered, and then a part of it and of what comes behind it, is a part of a longer text
sink-part : (before mid now : Option (List ℕ)) (had between text more rest : List ℕ) → Gathers before mid had text between → TakesPart mid now (between ++ more) → TakesPart before now (had ++ (text ++ (more ++ rest)))
sink-part before mid now had between text more rest first took =
    let P : List ℕ → Type 0 = λ t. TakesPart before now t in
    let all : (first.put ++ (between ++ more)) ++ rest ≡ had ++ (text ++ (more ++ rest)) =
    ap (λ (t : List ℕ). t ++ rest) (sym (append_assoc first.put between more) ∙ ap (λ (t : List ℕ). t ++ more) (sym first.kept) ∙ append_assoc had text more)
    ∙ append_assoc had (text ++ more) rest ∙ ap (λ (t : List ℕ). had ++ t) (append_assoc text more rest) in
    subst P all (part_of_more before now (first.put ++ (between ++ more)) rest (takes_and_part before mid now first.put (between ++ more) first.took took))

-- lines were run behind others
pub done-more :
    {R : Type 0} {S : Type 0} (w : Words R) (shown : S → Shown) (queue : Holding R) (limit : R) (cs ds : List (Command R)) (lines : List (Line R)) (asks : List Ask) (new : LimitSessionHolding S R) → lines ≡ lines_in ds → asks ≡ asks_in ds
    → InLimits shown queue limit (pushed_in cs ++ records_in lines) (left_after w.cmp limit (left_after w.cmp limit queue.bag (asks_in cs)) asks) (pops_in (asks_in cs) + pops_in asks) new → HasDone w shown queue limit (cs ++ ds) new
done-more {R} w shown queue limit cs ds lines asks new lines_are asks_are all =
    let left = left_after w.cmp limit queue.bag (asks_in cs) in
    let given : pushed_in cs ++ records_in lines ≡ pushed_in (cs ++ ds) = ap (λ (ls : List (Line R)). pushed_in cs ++ records_in ls) lines_are ∙ sym (pushed-append cs ds) in
    let asked : asks_in cs ++ asks ≡ asks_in (cs ++ ds) = ap (λ (xs : List Ask). asks_in cs ++ xs) asks_are ∙ sym (flat_map-append ask_by cs ds) in
    let left_is : left_after w.cmp limit left asks ≡ left_after w.cmp limit queue.bag (asks_in (cs ++ ds)) =
    sym (left_after-append w limit queue.bag (asks_in cs) asks) ∙ ap (λ (xs : List Ask). left_after w.cmp limit queue.bag xs) asked in
    let popped : pops_in (asks_in cs) + pops_in asks ≡ pops_in (asks_in (cs ++ ds)) = sym (pops_in-append (asks_in cs) asks) ∙ ap pops_in asked in
    let P : List R → Type 0 = λ xs. InLimits shown queue limit xs (left_after w.cmp limit left asks) (pops_in (asks_in cs) + pops_in asks) new in
    let Q : List R → Type 0 = λ xs. InLimits shown queue limit (pushed_in (cs ++ ds)) xs (pops_in (asks_in cs) + pops_in asks) new in
    let R : ℕ → Type 0 = λ n. InLimits shown queue limit (pushed_in (cs ++ ds)) (left_after w.cmp limit queue.bag (asks_in (cs ++ ds))) n new in
    subst R popped (subst Q left_is (subst P given all))

module _ {R : Type 0} (w : Words R) {S : Type 0} (shown : S → Shown) (form : Form) (whole : List (Command R)) (before : Option (List ℕ)) (had : List ℕ) (old : LimitSessionHolding S R) where
  -- of the lines these are left, and all answers of the others are gathered
  pub record IsGoingOn (rest : List (Command R)) (now : Option (List ℕ)) (has : List ℕ) (new : LimitSessionHolding S R) : Type 0 where
    pub done : List (Command R)
    pub all : whole ≡ done ++ rest
    pub going : AreGoing new
    pub session : (queue : Holding R) (limit : R) → HasJustBegun w shown queue limit old → HasDone w shown queue limit done new
    pub text : (queue : Holding R) (limit : R) → HasJustBegun w shown queue limit old → AllTell queue.slots → Gathers before now had (answers_of w form limit queue.bag done) has

  pub going-begin : AreGoing old → IsGoingOn whole before had old
  going-begin going = record {
    done = [];
    all = refl;
    going = going;
    session = λ queue limit begun. begun;
    text = λ queue limit begun tells. gathers-nothing before had;
  }

  -- all lines were run
  pub runs-all : (now : Option (List ℕ)) (has : List ℕ) (new : LimitSessionHolding S R) → IsGoingOn [] now has new → RunsLines w shown form whole before now had has old new
  runs-all now has new on = record {
    lines = on.done;
    rest = [];
    all = on.all;
    session = on.session;
    part = λ queue limit begun tells. let text = answers_of w form limit queue.bag on.done in record { part = text; rest = []; all = sym (append-nil text); gathers = on.text queue limit begun tells };
    text = λ sound. on.text;
    end = λ going. refl;
  }

  -- a batch more was run
  module _
      (rest first behind : List (Command R)) (mid_told now : Option (List ℕ)) (mid_has has : List ℕ) (mid new : LimitSessionHolding S R) (answers : List (Option R))
      (on : IsGoingOn rest mid_told mid_has mid) (cut : rest ≡ first ++ behind) (ran : RunsBatch w shown first answers mid new)
    where
      abbrev cs : List (Command R)
      cs = on.done

      all_to : whole ≡ (cs ++ first) ++ behind
      all_to = on.all ∙ ap (λ (xs : List (Command R)). cs ++ xs) cut ∙ sym (append_assoc cs first behind)

      session_to : (queue : Holding R) (limit : R) → HasJustBegun w shown queue limit old → HasDone w shown queue limit (cs ++ first) new
      session_to queue limit begun = ran.session queue limit cs (on.session queue limit begun)

      -- the text of the answers of the batch, and of those that are missing
      answered_to :
          (queue : Holding R) (limit : R) → HasJustBegun w shown queue limit old → AllTell queue.slots
          → (missing : List (Option R)) × (answers_of w form limit queue.bag (cs ++ first) ≡ answers_of w form limit queue.bag cs ++ (answers_text w form answers ++ answers_text w form missing))
      answered_to queue limit begun tells =
          let all = answers_to w.cmp limit (left_after w.cmp limit queue.bag (asks_in cs)) (asks_in first) in
          let n = length answers in
          let are : answers ≡ take n all = ran.answers_are queue limit cs (on.session queue limit begun) tells in (
            drop n all,
            answers-append w form limit queue.bag cs first ∙ ap (λ (xs : List (Option R)). answers_of w form limit queue.bag cs ++ answers_text w form xs) (sym (take-append-drop n all))
                ∙ ap (λ (t : List ℕ). answers_of w form limit queue.bag cs ++ t) (flat_map-append (limited_text w form) (take n all) (drop n all) ∙ ap (λ (xs : List (Option R)). answers_text w form xs ++ answers_text w form (drop n all)) (sym are)),
          )

      -- all of them unless a call of a slot failed
      answered_all :
          (queue : Holding R) (limit : R) → HasJustBegun w shown queue limit old → AllTell queue.slots → new.front.failed ≡ None
          → answers_of w form limit queue.bag (cs ++ first) ≡ answers_of w form limit queue.bag cs ++ answers_text w form answers
      answered_all queue limit begun tells sound =
          let left = left_after w.cmp limit queue.bag (asks_in cs) in
          let all = answers_to w.cmp limit left (asks_in first) in
          let full : length answers ≡ length all = ran.answered sound ∙ sym (length-answers_to w limit left (asks_in first)) in
          let are : answers ≡ all = ran.answers_are queue limit cs (on.session queue limit begun) tells ∙ ap (λ (n : ℕ). take n all) full ∙ take-length all in
          answers-append w form limit queue.bag cs first ∙ ap (λ (xs : List (Option R)). answers_of w form limit queue.bag cs ++ answers_text w form xs) (sym are)

      module _ (printed : Gathers mid_told now mid_has (answers_text w form answers) has) where
        gathered : (queue : Holding R) (limit : R) → HasJustBegun w shown queue limit old → AllTell queue.slots → Gathers before now had (answers_of w form limit queue.bag cs ++ answers_text w form answers) has
        gathered queue limit begun tells = gathers-more before mid_told now had mid_has has (answers_of w form limit queue.bag cs) (answers_text w form answers) (on.text queue limit begun tells) printed

        gathered_all : new.front.failed ≡ None → (queue : Holding R) (limit : R) → HasJustBegun w shown queue limit old → AllTell queue.slots → Gathers before now had (answers_of w form limit queue.bag (cs ++ first)) has
        gathered_all sound queue limit begun tells =
            let P : List ℕ → Type 0 = λ t. Gathers before now had t has in
            subst P (sym (answered_all queue limit begun tells sound)) (gathered queue limit begun tells)

        pub going-more : AreGoing new → IsGoingOn behind now has new
        going-more going = record {
          done = cs ++ first;
          all = all_to;
          going = going;
          session = session_to;
          text = gathered_all going.front;
        }

        pub runs-stopped : HasStopped new → RunsLines w shown form whole before now had has old new
        runs-stopped stopped = record {
          lines = cs ++ first;
          rest = behind;
          all = all_to;
          session = session_to;
          part =
              λ queue limit begun tells.
              let a = answered_to queue limit begun tells in
              record {
                part = answers_of w form limit queue.bag cs ++ answers_text w form answers;
                rest = answers_text w form a.0;
                all = a.1 ∙ sym (append_assoc (answers_of w form limit queue.bag cs) (answers_text w form answers) (answers_text w form a.0));
                gathers = gathered queue limit begun tells;
              };
          text = gathered_all;
          end = λ going. absurd (going-not_stopped new going stopped);
        }

      pub breaks-off : TakesPart mid_told now (mid_has ++ answers_text w form answers) → BreaksOff w shown form whole before now had old new
      breaks-off took = record {
        lines = cs ++ first;
        rest = behind;
        all = all_to;
        session = session_to;
        text =
            λ queue limit begun tells.
            let a = answered_to queue limit begun tells in
            let done = answers_of w form limit queue.bag cs in
            let later = answers_of w form limit (left_after w.cmp limit queue.bag (asks_in (cs ++ first))) behind in
            let P : List ℕ → Type 0 = λ t. TakesPart before now (had ++ t) in
            let all : answers_of w form limit queue.bag whole ≡ done ++ (answers_text w form answers ++ (answers_text w form a.0 ++ later)) =
            ap (answers_of w form limit queue.bag) all_to ∙ answers-append w form limit queue.bag (cs ++ first) behind ∙ ap (λ (t : List ℕ). t ++ later) a.1
            ∙ append_assoc done (answers_text w form answers ++ answers_text w form a.0) later ∙ ap (λ (t : List ℕ). done ++ t) (append_assoc (answers_text w form answers) (answers_text w form a.0) later) in
            subst P (sym all) (sink-part before mid_told now had mid_has done (answers_text w form answers) (answers_text w form a.0 ++ later) (on.text queue limit begun tells) took);
      }
