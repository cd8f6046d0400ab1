-- Commands that run together: where the lines of a session end, and what begins at a place of a script.
use Rattle.std.proofs.Common.{◌≡◌, ℕ, suc, ◌+◌, ◌<◌, ◌≤◌, true, false, List, [], ◌∷◌, ◌++◌, length, take, drop, Option, Some, None, refl, sym, ap, ap₂, ◌∙◌, subst, arith, append_assoc, Bor, drop-cons, take-add, drop-drop, take-append-drop, length-drop, length-append}
use Rattle.std.specs.Prelude.{slice_get, get_or, unwrap_or}
use Rattle.std.proofs.Math.Seq.{drop-append_seam}
use Rattle.std.proofs.lemmas.Bool.{and_parts}
use Rattle.std.proofs.lemmas.Option.{get_or_from_slice_get, slice_get-map, slice_get-get_or}
use Rattle.std.proofs.lemmas.List.{length-map, take-map, drop-map}
use Rattle.std.specs.Option.{option_map}
use Rattle.ppq_script.specs.declared.command.Command.{Command}
use Rattle.ppq_script.specs.declared.command.Command.TheVariants.{BulkBegin, BulkEnd, LimitBegin, LimitEnd}
use Rattle.ppq_script.specs.declared.numbered.Numbered.{Numbered}
use Rattle.ppq_script.specs.declared.part.Part.{Part}
use Rattle.ppq_script.specs.declared.part.Part.TheVariants as part
use Rattle.ppq_script.specs.declared.session.Session.{Session}
use Rattle.ppq_script.specs.declared.session.Session.TheVariants.{Outside, InBulk, InLimit}
use Rattle.ppq_script.specs.Parts.{commands_of, AreLines, commands_in, first_in, HasItsLines, IsPartAt, is_end, IsOpenIn, EndsAt}
use Rattle.ppq_script.specs.Reading.{Reading, command_list}
use Rattle.ppq_script.specs.Sessions.{turn_of, is_outside, may_stand, are_in_place}
use Rattle.ppq_script.specs.Words.{Words}

module _ {R : Type 0} where
  -- the session behind the end of one is none
  behind-end : (turn : Option (Session R)) (session : Session R) → is_end turn ≡ true → unwrap_or turn session ≡ Outside
  behind-end None session e = cc
  behind-end (Some Outside) session e = refl
  behind-end (Some InBulk) session e = cc
  behind-end (Some (InLimit limit)) session e = cc

  -- the command at a place, and those behind it
  pub here : (commands : List (Command R)) (i : ℕ) (c : Command R) → i < length commands → slice_get commands i ≡ Some c → drop i commands ≡ c ∷ drop (i + 1) commands
  here commands i c h e =
      let next : suc i ≡ i + 1 = omega arith in
      drop-cons commands i c h ∙ ap (λ (x : Command R). x ∷ drop (suc i) commands) (get_or_from_slice_get commands i c c e) ∙ ap (λ (n : ℕ). c ∷ drop n commands) next

module _ {R : Type 0} (words : Words R) where
  -- in a session, a command that may stand there and does not end it is a line of it
  no_turn : (workers : ℕ) (session : Session R) (c : Command R) → is_outside session ≡ false → may_stand words workers session c ≡ true → is_end (turn_of c) ≡ false → turn_of c ≡ None
  no_turn workers session BulkBegin opened stands on = cc
  no_turn workers session BulkEnd opened stands on = cc
  no_turn workers session (LimitBegin limit) opened stands on = cc
  no_turn workers session LimitEnd opened stands on = cc
  no_turn workers session _ opened stands on = refl

  -- one line behind others
  AreLines-more : (workers : ℕ) (session : Session R) (cs ds : List (Command R)) → AreLines words workers session cs → AreLines words workers session ds → AreLines words workers session (cs ++ ds)
  AreLines-more workers session [] ds h k = k
  AreLines-more workers session (c ∷ cs) ds h k = (h.0, AreLines-more workers session cs ds h.1 k)

  -- the first so many commands are lines of the session, which goes on behind them
  pub record GoesOn (workers : ℕ) (session : Session R) (commands : List (Command R)) (count : ℕ) : Type 0 where
    pub lines : AreLines words workers session (take count commands)
    pub in_place : are_in_place words workers session (drop count commands) ≡ true

  module _ (workers : ℕ) (session : Session R) (commands : List (Command R)) (opened : IsOpenIn words workers session commands) where
    pub goes-begin : GoesOn workers session commands 0
    goes-begin = record { lines = tt; in_place = opened.in_place }

    some_in : (cs : List (Command R)) → are_in_place words workers session cs ≡ true → 0 < length cs
    some_in [] e = let no = opened.opened in cc
    some_in (c ∷ cs) e = omega arith

    module _ (count : ℕ) (on : GoesOn workers session commands count) where
      pub some-left : count < length commands
      some-left = omega (arith, some_in (drop count commands) on.in_place, length-drop count commands)

      module _ (c : Command R) (at : slice_get commands count ≡ Some c) where
        there : drop count commands ≡ c ∷ drop (count + 1) commands
        there = here commands count c some-left at

        stands : (may_stand words workers session c ≡ true) × (are_in_place words workers (unwrap_or (turn_of c) session) (drop (count + 1) commands) ≡ true)
        stands =
            let P : List (Command R) → Type 0 = λ cs. are_in_place words workers session cs ≡ true in
            and_parts (may_stand words workers session c) (are_in_place words workers (unwrap_or (turn_of c) session) (drop (count + 1) commands)) (subst P there on.in_place)

        -- a line more
        pub goes-on : is_end (turn_of c) ≡ false → GoesOn workers session commands (count + 1)
        goes-on more =
            let none = no_turn workers session c opened.opened stands.0 more in
            let up : take (count + 1) commands ≡ take count commands ++ c ∷ [] = take-add count 1 commands ∙ ap (λ (xs : List (Command R)). take count commands ++ take 1 xs) there in
            let P : Option (Session R) → Type 0 = λ t. are_in_place words workers (unwrap_or t session) (drop (count + 1) commands) ≡ true in
            record {
              lines = subst (AreLines words workers session) (sym up) (AreLines-more workers session (take count commands) (c ∷ []) on.lines (record { stands = stands.0; stays = none }, tt));
              in_place = subst P none stands.1;
            }

        -- its end
        pub ends-at : is_end (turn_of c) ≡ true → EndsAt words workers session commands (take count commands)
        ends-at over =
            let P : Session R → Type 0 = λ s. are_in_place words workers s (drop (count + 1) commands) ≡ true in
            record {
              end = c;
              rest = drop (count + 1) commands;
              whole = sym (take-append-drop count commands) ∙ ap (λ (xs : List (Command R)). take count commands ++ xs) there;
              lines_are = on.lines;
              stands = stands.0;
              ends = over;
              behind = subst P (behind-end (turn_of c) session over) stands.1;
            }

  -- the same of lines, by the place where the next one stands
  module _ (workers : ℕ) (session : Session R) (items : List (Numbered R)) (opened : IsOpenIn words workers session (commands_of items)) (count : ℕ) (on : GoesOn workers session (commands_of items) count) (d : Numbered R) where
    within : count < length items
    within = omega (arith, some-left workers session (commands_of items) opened count on, length-map items (λ n. n.command))

    at : slice_get (commands_of items) count ≡ Some (get_or items count d).command
    at = slice_get-map (λ n. n.command) items count ∙ ap (option_map (λ n. n.command)) (slice_get-get_or items count d within)

    pub line-goes_on : is_end (turn_of (get_or items count d).command) ≡ false → GoesOn workers session (commands_of items) (count + 1)
    line-goes_on more = goes-on workers session (commands_of items) opened count on (get_or items count d).command at more

    pub line-ends : is_end (turn_of (get_or items count d).command) ≡ true → EndsAt words workers session (commands_of items) (commands_of (take count items))
    line-ends over =
        let P : List (Command R) → Type 0 = λ cs. EndsAt words workers session (commands_of items) cs in
        subst P (take-map (λ (n : Numbered R). n.command) count items) (ends-at workers session (commands_of items) opened count on (get_or items count d).command at over)

  -- what ends a session is the end of its kind
  bulk_end : (workers : ℕ) (c : Command R) → may_stand words workers InBulk c ≡ true → is_end (turn_of c) ≡ true → c ≡ BulkEnd
  bulk_end workers BulkEnd stands over = refl
  bulk_end workers _ stands over = cc

  limit_end : (workers : ℕ) (limit : R) (c : Command R) → may_stand words workers (InLimit limit) c ≡ true → is_end (turn_of c) ≡ true → c ≡ LimitEnd
  limit_end workers limit LimitEnd stands over = refl
  limit_end workers limit _ stands over = cc

  -- a command that may stand outside of a session is one alone, or begins a session
  alone : (workers : ℕ) (c : Command R) → may_stand words workers Outside c ≡ true → (c ≡ BulkBegin → ⊥) → ((limit : R) → c ≡ LimitBegin limit → ⊥) → turn_of c ≡ None
  alone workers BulkBegin stands no_bulk no_limit = absurd (no_bulk refl)
  alone workers (LimitBegin limit) stands no_bulk no_limit = absurd (no_limit limit refl)
  alone workers BulkEnd stands no_bulk no_limit = cc
  alone workers LimitEnd stands no_bulk no_limit = cc
  alone workers _ stands no_bulk no_limit = refl

  -- what begins at a place
  module _ (script : Reading R) (place : ℕ) (within : place < length script.commands) (in_place : are_in_place words script.workers Outside (drop place (command_list script)) ≡ true) (c : Command R) (at : slice_get (command_list script) place ≡ Some c) where
    abbrev behind : List (Command R)
    behind = drop (place + 1) (command_list script)

    from-here : drop place (command_list script) ≡ c ∷ behind
    from-here = here (command_list script) place c (omega (arith, within, length-map script.commands (λ n. n.command))) at

    stood : (may_stand words script.workers Outside c ≡ true) × (are_in_place words script.workers (unwrap_or (turn_of c) Outside) behind ≡ true)
    stood =
        let P : List (Command R) → Type 0 = λ cs. are_in_place words script.workers Outside cs ≡ true in
        and_parts (may_stand words script.workers Outside c) (are_in_place words script.workers (unwrap_or (turn_of c) Outside) behind) (subst P from-here in_place)

    -- a part whose commands are the first there, and the others
    part-at : (part : Part R) (rest : List (Command R)) → c ≡ first_in part → c ∷ behind ≡ commands_in part ++ rest → HasItsLines words script.workers part → are_in_place words script.workers Outside rest ≡ true → IsPartAt words script place part
    part-at part rest first whole lines next =
        let n = length (commands_in part) in
        let all : drop place (command_list script) ≡ commands_in part ++ rest = from-here ∙ whole in
        let same : rest ≡ drop (place + n) (command_list script) = sym (drop-append_seam (commands_in part) rest) ∙ ap (drop n) (sym all) ∙ drop-drop n place (command_list script) in
        let P : List (Command R) → Type 0 = λ cs. are_in_place words script.workers Outside cs ≡ true in
        record { first = at ∙ ap (λ (x : Command R). Some x) first; whole = all ∙ ap (λ (cs : List (Command R)). commands_in part ++ cs) same; lines = lines; next = subst P same next }

    -- one command
    pub one-at : (c ≡ BulkBegin → ⊥) → ((limit : R) → c ≡ LimitBegin limit → ⊥) → IsPartAt words script place (part.One c)
    one-at no_bulk no_limit =
        let stays = alone script.workers c stood.0 no_bulk no_limit in
        let P : Option (Session R) → Type 0 = λ t. are_in_place words script.workers (unwrap_or t Outside) behind ≡ true in
        part-at (part.One c) behind refl refl (record { stands = stood.0; stays = stays }) (subst P stays stood.1)

    -- what stands behind the beginning of a session
    behind-lines : (items : List (Numbered R)) → items ≡ drop (place + 1) script.commands → commands_of items ≡ behind
    behind-lines items same = ap commands_of same ∙ sym (drop-map (λ (n : Numbered R). n.command) (place + 1) script.commands)

    pub session-open : (session : Session R) (items : List (Numbered R)) → is_outside session ≡ false → turn_of c ≡ Some session → items ≡ drop (place + 1) script.commands → IsOpenIn words script.workers session (commands_of items)
    session-open session items opened turn same =
        let P : Option (Session R) → Type 0 = λ t. are_in_place words script.workers (unwrap_or t Outside) behind ≡ true in
        let Q : List (Command R) → Type 0 = λ cs. are_in_place words script.workers session cs ≡ true in
        record { opened = opened; in_place = subst Q (sym (behind-lines items same)) (subst P turn stood.1) }

    -- a session
    regrouped : (begin over end : Command R) (lines rest : List (Command R)) → c ≡ begin → over ≡ end → behind ≡ lines ++ (over ∷ rest) → c ∷ behind ≡ (begin ∷ (lines ++ end ∷ [])) ++ rest
    regrouped begin over end lines rest is ends all =
        ap₂ (λ (x : Command R) (xs : List (Command R)). x ∷ xs) is (all ∙ ap (λ (x : Command R). lines ++ (x ∷ rest)) ends ∙ sym (append_assoc lines (end ∷ []) rest))

    pub bulk-at : (items : List (Numbered R)) (lines : Bor (List (Numbered R))) → c ≡ BulkBegin → items ≡ drop (place + 1) script.commands → EndsAt words script.workers InBulk (commands_of items) (commands_of lines.now) → IsPartAt words script place (part.Bulk lines)
    bulk-at items lines is same ends =
        let over = bulk_end script.workers ends.end ends.stands ends.ends in
        part-at (part.Bulk lines) ends.rest is (regrouped BulkBegin ends.end BulkEnd (commands_of lines.now) ends.rest is over (sym (behind-lines items same) ∙ ends.whole)) ends.lines_are ends.behind

    pub limit-at : (limit : R) (items : List (Numbered R)) (lines : Bor (List (Numbered R))) → c ≡ LimitBegin limit → items ≡ drop (place + 1) script.commands → EndsAt words script.workers (InLimit limit) (commands_of items) (commands_of lines.now) → IsPartAt words script place (part.Limit limit lines)
    limit-at limit items lines is same ends =
        let over = limit_end script.workers limit ends.end ends.stands ends.ends in
        part-at (part.Limit limit lines) ends.rest is (regrouped (LimitBegin limit) ends.end LimitEnd (commands_of lines.now) ends.rest is over (sym (behind-lines items same) ∙ ends.whole)) ends.lines_are ends.behind

  -- a part does not go over the end of the script
  pub part-within : (script : Reading R) (place : ℕ) (here : Part R) → place < length script.commands → IsPartAt words script place here → place + length (commands_in here) ≤ length script.commands
  part-within script place here below at =
      let n = length (commands_in here) in
      let long : length (drop place (command_list script)) ≡ length (commands_in here ++ drop (place + n) (command_list script)) = ap length at.whole in
      omega (arith, below, long, length-drop place (command_list script), length-append (commands_in here) (drop (place + n) (command_list script)), length-map script.commands (λ n. n.command))
