-- Lemmas on sessions: where a command may stand, and the session before a line.
use Rattle.std.proofs.Common.{◌≡◌, ℕ, zero, suc, Bool, true, false, not, ◌&&◌, ◌+◌, ◌-◌, ◌<◌, ◌≤◌, nat_lt, inl, inr, List, [], length, get_or, Option, Some, None, refl, sym, ap, ◌∙◌, subst, arith}
use Rattle.std.specs.Prelude.{unwrap_or}
use Rattle.std.proofs.lemmas.Bool.{and_parts, and_from, ltb-true, ltb-false, lt-ltb}
use Rattle.ppq_record.specs.Order.{is_before}
use Rattle.ppq_script.specs.declared.command.Command.{Command}
use Rattle.ppq_script.specs.declared.command.Command.TheVariants.{Push, Pop, Top, Size, Bulk, Gen, BulkPop, BulkPopLimit, Drain, BulkBegin, BulkPush, BulkEnd, LimitBegin, LimitPush, LimitTop, LimitPop, LimitEnd}
use Rattle.ppq_script.specs.declared.session.Session.{Session}
use Rattle.ppq_script.specs.declared.session.Session.TheVariants.{Outside, InBulk, InLimit}
use Rattle.ppq_script.specs.Sessions.{turn_of, is_outside, is_in_bulk, is_in_limit, is_at_limit, may_stand}
use Rattle.ppq_script.specs.Lines.{LineKind, Skipped, Plain, OfFile, Bad, kind_of, session_behind}
use Rattle.ppq_script.specs.Meaning.{Stands, IsInLimit, IsAtLimit, IsBelow, Turns, NoTurn, IsLastTurn, IsSession, HasOneSession, line_at}
use Rattle.ppq_script.specs.Words.{Words}
use Rattle.ppq_script.proofs.WordLaws.{Laws}
use Rattle.ppq_script.proofs.Spelling.{Reads-Plain, Plain-Reads}

module _ {R : Type 0} where
  -- no session, a bulk session, a limit session, and one at or below a record
  outside_is : (s : Session R) → is_outside s ≡ true → s ≡ Outside
  outside_is Outside e = refl
  outside_is InBulk e = cc
  outside_is (InLimit limit) e = cc

  is_outside-is : (s : Session R) → s ≡ Outside → is_outside s ≡ true
  is_outside-is s e = ap is_outside e

  bulk_is : (s : Session R) → is_in_bulk s ≡ true → s ≡ InBulk
  bulk_is Outside e = cc
  bulk_is InBulk e = refl
  bulk_is (InLimit limit) e = cc

  is_in_bulk-is : (s : Session R) → s ≡ InBulk → is_in_bulk s ≡ true
  is_in_bulk-is s e = ap is_in_bulk e

  limit_is : (s : Session R) → is_in_limit s ≡ true → IsInLimit s
  limit_is Outside e = cc
  limit_is InBulk e = cc
  limit_is (InLimit limit) e = (limit, refl)

  is_in_limit-is : (s : Session R) → IsInLimit s → is_in_limit s ≡ true
  is_in_limit-is s (limit, e) = ap is_in_limit e

  -- the session that a line tells, if it begins or ends one
  abbrev pub turn_in : LineKind R → Option (Session R)
  turn_in Skipped = None
  turn_in (Plain command) = turn_of command
  turn_in (OfFile name) = None
  turn_in Bad = None

  pub behind_is : (s : Session R) (k : LineKind R) → session_behind s k ≡ unwrap_or (turn_in k) s
  behind_is s Skipped = refl
  behind_is s (Plain command) = refl
  behind_is s (OfFile name) = refl
  behind_is s Bad = refl

module _ {R : Type 0} (words : Words R) where
  -- the session before the line at place i
  abbrev pub session_at : List (List ℕ) → ℕ → Session R
  session_at lines zero = Outside
  session_at lines (suc i) = session_behind (session_at lines i) (kind_of words (get_or lines i []))

-- where each command may stand, and the session before a line
module _ {R : Type 0} (words : Words R) (laws : Laws words) where
  not_below : (item limit : R) (t : Bool) → is_before words.cmp item limit ≡ t → not t ≡ true → ¬ IsBelow words item limit
  not_below item limit true is e = λ below. cc
  not_below item limit false is e = λ below. (let less : is_before words.cmp item limit ≡ true = laws.before item limit below in cc)

  below_not : (item limit : R) (t : Bool) → is_before words.cmp item limit ≡ t → ¬ IsBelow words item limit → not t ≡ true
  below_not item limit true is h = absurd (h (laws.below item limit is))
  below_not item limit false is h = refl

  at_limit_is : (s : Session R) (item : R) → is_at_limit words s item ≡ true → IsAtLimit words s item
  at_limit_is Outside item e = cc
  at_limit_is InBulk item e = cc
  at_limit_is (InLimit limit) item e = (limit, (refl, not_below item limit (is_before words.cmp item limit) refl e))

  is_at_limit-is : (s : Session R) (item : R) → IsAtLimit words s item → is_at_limit words s item ≡ true
  is_at_limit-is s item (limit, (e, h)) = ap (λ (r : Session R). is_at_limit words r item) e ∙ below_not item limit (is_before words.cmp item limit) refl h

  -- in a session, and with a pass below the workers
  pass_is : (t : Bool) (pass workers : ℕ) → (t && nat_lt pass workers) ≡ true → (t ≡ true) × (pass < workers)
  pass_is t pass workers e = let both = and_parts t (nat_lt pass workers) e in (both.0, ltb-true pass workers both.1)

  is_pass : (t : Bool) (pass workers : ℕ) → t ≡ true → pass < workers → (t && nat_lt pass workers) ≡ true
  is_pass t pass workers e h = and_from t (nat_lt pass workers) e (lt-ltb pass workers h)

  pub Stands-may_stand : (workers : ℕ) (s : Session R) (c : Command R) → may_stand words workers s c ≡ true → Stands words workers s c
  Stands-may_stand workers s (Push item) e = outside_is s e
  Stands-may_stand workers s Pop e = outside_is s e
  Stands-may_stand workers s Top e = outside_is s e
  Stands-may_stand workers s Size e = outside_is s e
  Stands-may_stand workers s (Bulk file length) e = outside_is s e
  Stands-may_stand workers s (Gen seed count) e = outside_is s e
  Stands-may_stand workers s (BulkPop count) e = outside_is s e
  Stands-may_stand workers s (BulkPopLimit limit count) e = outside_is s e
  Stands-may_stand workers s (Drain count) e = outside_is s e
  Stands-may_stand workers s BulkBegin e = outside_is s e
  Stands-may_stand workers s (BulkPush pass item) e = let both = pass_is (is_in_bulk s) pass workers e in (bulk_is s both.0, both.1)
  Stands-may_stand workers s BulkEnd e = bulk_is s e
  Stands-may_stand workers s (LimitBegin limit) e = outside_is s e
  Stands-may_stand workers s (LimitPush pass item) e = let both = pass_is (is_at_limit words s item) pass workers e in (at_limit_is s item both.0, both.1)
  Stands-may_stand workers s LimitTop e = limit_is s e
  Stands-may_stand workers s LimitPop e = limit_is s e
  Stands-may_stand workers s LimitEnd e = limit_is s e

  pub may_stand-Stands : (workers : ℕ) (s : Session R) (c : Command R) → Stands words workers s c → may_stand words workers s c ≡ true
  may_stand-Stands workers s (Push item) h = is_outside-is s h
  may_stand-Stands workers s Pop h = is_outside-is s h
  may_stand-Stands workers s Top h = is_outside-is s h
  may_stand-Stands workers s Size h = is_outside-is s h
  may_stand-Stands workers s (Bulk file length) h = is_outside-is s h
  may_stand-Stands workers s (Gen seed count) h = is_outside-is s h
  may_stand-Stands workers s (BulkPop count) h = is_outside-is s h
  may_stand-Stands workers s (BulkPopLimit limit count) h = is_outside-is s h
  may_stand-Stands workers s (Drain count) h = is_outside-is s h
  may_stand-Stands workers s BulkBegin h = is_outside-is s h
  may_stand-Stands workers s (BulkPush pass item) h = is_pass (is_in_bulk s) pass workers (is_in_bulk-is s h.0) h.1
  may_stand-Stands workers s BulkEnd h = is_in_bulk-is s h
  may_stand-Stands workers s (LimitBegin limit) h = is_outside-is s h
  may_stand-Stands workers s (LimitPush pass item) h = is_pass (is_at_limit words s item) pass workers (is_at_limit-is s item h.0) h.1
  may_stand-Stands workers s LimitTop h = is_in_limit-is s h
  may_stand-Stands workers s LimitPop h = is_in_limit-is s h
  may_stand-Stands workers s LimitEnd h = is_in_limit-is s h

  command_turns : (line : List ℕ) (c : Command R) (s : Session R) → kind_of words line ≡ Plain c → turn_of c ≡ Some s → Turns words line s
  command_turns line (Push item) s k e = cc
  command_turns line Pop s k e = cc
  command_turns line Top s k e = cc
  command_turns line Size s k e = cc
  command_turns line (Bulk file length) s k e = cc
  command_turns line (Gen seed count) s k e = cc
  command_turns line (BulkPop count) s k e = cc
  command_turns line (BulkPopLimit limit count) s k e = cc
  command_turns line (Drain count) s k e = cc
  command_turns line BulkBegin s k e = let is : InBulk ≡ s = cc in subst (Turns words line) is (Reads-Plain words laws line BulkBegin k)
  command_turns line (BulkPush pass item) s k e = cc
  command_turns line BulkEnd s k e = let is : Outside ≡ s = cc in subst (Turns words line) is (inl (Reads-Plain words laws line BulkEnd k))
  command_turns line (LimitBegin limit) s k e = let is : InLimit limit ≡ s = cc in subst (Turns words line) is (Reads-Plain words laws line (LimitBegin limit) k)
  command_turns line (LimitPush pass item) s k e = cc
  command_turns line LimitTop s k e = cc
  command_turns line LimitPop s k e = cc
  command_turns line LimitEnd s k e = let is : Outside ≡ s = cc in subst (Turns words line) is (inr (Reads-Plain words laws line LimitEnd k))

  line_turns : (line : List ℕ) (k : LineKind R) (s : Session R) → kind_of words line ≡ k → turn_in k ≡ Some s → Turns words line s
  line_turns line Skipped s k e = cc
  line_turns line (Plain command) s k e = command_turns line command s k e
  line_turns line (OfFile name) s k e = cc
  line_turns line Bad s k e = cc

  turns_line : (line : List ℕ) (s : Session R) → Turns words line s → turn_in (kind_of words line) ≡ Some s
  turns_line line Outside (inl h) = ap turn_in (Plain-Reads words laws line BulkEnd h)
  turns_line line Outside (inr h) = ap turn_in (Plain-Reads words laws line LimitEnd h)
  turns_line line InBulk h = ap turn_in (Plain-Reads words laws line BulkBegin h)
  turns_line line (InLimit limit) h = ap turn_in (Plain-Reads words laws line (LimitBegin limit) h)

  -- the line at place i is line i + 1
  line_here : (lines : List (List ℕ)) (i : ℕ) → line_at lines (suc i) ≡ get_or lines i []
  line_here lines i = let e : suc i - 1 ≡ i = omega arith in ap (λ (n : ℕ). get_or lines n []) e

  turns_here : (lines : List (List ℕ)) (i : ℕ) (s : Session R) → turn_in (kind_of words (get_or lines i [])) ≡ Some s → Turns words (line_at lines (suc i)) s
  turns_here lines i s e = subst (λ (l : List ℕ). Turns words l s) (sym (line_here lines i)) (line_turns (get_or lines i []) (kind_of words (get_or lines i [])) s refl e)

  here_turns : (lines : List (List ℕ)) (i : ℕ) (s : Session R) → Turns words (line_at lines (suc i)) s → turn_in (kind_of words (get_or lines i [])) ≡ Some s
  here_turns lines i s h = turns_line (get_or lines i []) s (subst (λ (l : List ℕ). Turns words l s) (line_here lines i) h)

  none_here : (lines : List (List ℕ)) (i : ℕ) → turn_in (kind_of words (get_or lines i [])) ≡ None → (t : Session R) → ¬ Turns words (line_at lines (suc i)) t
  none_here lines i none t h = let some = here_turns lines i t h in cc

  -- a line that begins or ends a session is the last such line before the next
  told_here : (lines : List (List ℕ)) (i : ℕ) (s : Session R) → Turns words (line_at lines (suc i)) s → IsSession words lines (suc (suc i)) s
  told_here lines i s h = inl (record { turn = suc i; from_one = omega arith; before = omega arith; turns = h; last = λ k t low high. absurd (omega (arith, low, high)) })

  -- another one is not
  no_turn_more : (lines : List (List ℕ)) (from i : ℕ) → NoTurn words lines from (suc i) → ((t : Session R) → ¬ Turns words (line_at lines (suc i)) t) → NoTurn words lines from (suc (suc i))
  no_turn_more lines from i before here = λ k t low high. by_place k t low (nat_lt k (suc i)) refl (omega (arith, high))
    where
      by_place : (k : ℕ) (t : Session R) → from ≤ k → (b : Bool) → nat_lt k (suc i) ≡ b → k ≤ suc i → ¬ Turns words (line_at lines k) t
      by_place k t low true is high = before k t low (ltb-true k (suc i) is)
      by_place k t low false is high = let e : k ≡ suc i = omega (arith, ltb-false k (suc i) is, high) in subst (λ (j : ℕ). ¬ Turns words (line_at lines j) t) (sym e) (here t)

  told_before : (lines : List (List ℕ)) (i : ℕ) (s : Session R) → IsSession words lines (suc i) s → ((t : Session R) → ¬ Turns words (line_at lines (suc i)) t) → IsSession words lines (suc (suc i)) s
  told_before lines i s (inl h) here = inl (record { turn = h.turn; from_one = h.from_one; before = omega (arith, h.before); turns = h.turns; last = no_turn_more lines (h.turn + 1) i h.last here })
  told_before lines i s (inr h) here = inr (h.0, no_turn_more lines 1 i h.1 here)

  is_session : (lines : List (List ℕ)) (i : ℕ) → IsSession words lines (suc i) (session_at words lines i)
  is_session lines zero = inr (refl, λ k t low high. absurd (omega (arith, low, high)))
  is_session lines (suc i) = subst (IsSession words lines (suc (suc i))) (sym (behind_is (session_at words lines i) (kind_of words (get_or lines i [])))) (by_turn (turn_in (kind_of words (get_or lines i []))) refl (is_session lines i))
    where
      by_turn : (o : Option (Session R)) → turn_in (kind_of words (get_or lines i [])) ≡ o → IsSession words lines (suc i) (session_at words lines i) → IsSession words lines (suc (suc i)) (unwrap_or o (session_at words lines i))
      by_turn None is before = told_before lines i (session_at words lines i) before (none_here lines i is)
      by_turn (Some s) is before = told_here lines i s (turns_here lines i s is)

  -- and there is no other
  none_left : (lines : List (List ℕ)) (i from : ℕ) → from ≤ suc i → NoTurn words lines from (suc (suc i)) → (s : Session R) → ¬ Turns words (line_at lines (suc i)) s
  none_left lines i from low none s = none (suc i) s low (omega arith)

  no_turn_less : (lines : List (List ℕ)) (from i : ℕ) → NoTurn words lines from (suc (suc i)) → NoTurn words lines from (suc i)
  no_turn_less lines from i none = λ k t low high. none k t low (omega (arith, high))

  same_session : (lines : List (List ℕ)) (i : ℕ) (t : Session R) → IsSession words lines (suc i) t → t ≡ session_at words lines i
  same_session lines zero t (inl h) = absurd (omega (arith, h.from_one, h.before))
  same_session lines zero t (inr h) = h.0
  same_session lines (suc i) t h = by_turn (turn_in (kind_of words (get_or lines i []))) refl h (same_session lines i t) ∙ sym (behind_is (session_at words lines i) (kind_of words (get_or lines i [])))
    where
      last_here : (s : Session R) → turn_in (kind_of words (get_or lines i [])) ≡ Some s → (last : IsLastTurn words lines (suc (suc i)) t) → (b : Bool) → nat_lt last.turn (suc i) ≡ b → t ≡ s
      last_here s is last true before = absurd (none_left lines i (last.turn + 1) (omega (arith, ltb-true last.turn (suc i) before)) last.last s (turns_here lines i s is))
      last_here s is last false after =
          let here : last.turn ≡ suc i = omega (arith, ltb-false last.turn (suc i) after, last.before) in
          let told = here_turns lines i t (subst (λ (j : ℕ). Turns words (line_at lines j) t) here last.turns) in cc

      last_before : turn_in (kind_of words (get_or lines i [])) ≡ None → (last : IsLastTurn words lines (suc (suc i)) t) → (b : Bool) → nat_lt last.turn (suc i) ≡ b → IsLastTurn words lines (suc i) t
      last_before is last true before = record { turn = last.turn; from_one = last.from_one; before = ltb-true last.turn (suc i) before; turns = last.turns; last = no_turn_less lines (last.turn + 1) i last.last }
      last_before is last false after =
          let here : last.turn ≡ suc i = omega (arith, ltb-false last.turn (suc i) after, last.before) in
          absurd (none_here lines i is t (subst (λ (j : ℕ). Turns words (line_at lines j) t) here last.turns))

      by_turn : (o : Option (Session R)) → turn_in (kind_of words (get_or lines i [])) ≡ o → IsSession words lines (suc (suc i)) t → (IsSession words lines (suc i) t → t ≡ session_at words lines i) → t ≡ unwrap_or o (session_at words lines i)
      by_turn None is (inl last) rest = rest (inl (last_before is last (nat_lt last.turn (suc i)) refl))
      by_turn None is (inr none) rest = rest (inr (none.0, no_turn_less lines 1 i none.1))
      by_turn (Some s) is (inl last) rest = last_here s is last (nat_lt last.turn (suc i)) refl
      by_turn (Some s) is (inr none) rest = absurd (none_left lines i 1 (omega arith) none.1 s (turns_here lines i s is))

  -- the session before line n
  pub IsSession-at : (lines : List (List ℕ)) (i : ℕ) → IsSession words lines (i + 1) (session_at words lines i)
  IsSession-at lines i = let e : i + 1 ≡ suc i = omega arith in subst (λ (n : ℕ). IsSession words lines n (session_at words lines i)) (sym e) (is_session lines i)

  pub at-IsSession : (lines : List (List ℕ)) (n : ℕ) (s : Session R) → 1 ≤ n → IsSession words lines n s → s ≡ session_at words lines (n - 1)
  at-IsSession lines zero s some h = absurd (omega (arith, some))
  at-IsSession lines (suc i) s some h = let e : suc i - 1 ≡ i = omega arith in same_session lines i s h ∙ ap (session_at words lines) (sym e)

  pub one_session : (lines : List (List ℕ)) (n : ℕ) → 1 ≤ n → HasOneSession words lines n
  one_session lines n some =
      let e : (n - 1) + 1 ≡ n = omega (arith, some) in
      record { session = session_at words lines (n - 1); is = subst (λ (m : ℕ). IsSession words lines m (session_at words lines (n - 1))) e (IsSession-at lines (n - 1)); only = λ other h. at-IsSession lines n other some h }
