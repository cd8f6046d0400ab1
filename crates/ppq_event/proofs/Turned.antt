-- A round is a part of the run.
use Rattle.std.proofs.Common.{◌≡◌, ℕ, zero, suc, ◌+◌, ◌-◌, ◌<◌, ◌≤◌, Bool, true, false, cond, List, [], ◌∷◌, ◌++◌, length, drop, take, max, min, refl, sym, ap, ap₂, subst, inl, inr, ◌∙◌, arith, nat_lt, nat_eq, Option, Some, None, length-append, length-drop}
use Rattle.std.specs.Prelude.{flat_map}
use Rattle.std.specs.List.{AllByRecursion as Each}
use Rattle.std.specs.declared.cmp.Ordering.TheVariants.{Less, Equal}
use Rattle.std.specs.Ordering.{nat_cmp}
use Rattle.std.specs.Cmp.{nat_cmp_is}
use Rattle.std.proofs.lemmas.Bool.{cases_Bool}
use Rattle.std.proofs.lemmas.Bool.Decides.{nat_tests}
use Rattle.ppq_handler.specs.ppq_record.declared.triple.Triple.{Triple}
use Rattle.ppq_handler.specs.ppq_record.Triple.{triple_cmp, triple_same}
use Rattle.ppq_handler.specs.ppq_record.Bag.{IsSameBag, least, first_of}
use Rattle.ppq_handler.specs.ppq_record.Order.{is_before, Le, Ascends}
use Rattle.ppq_handler.specs.ppq_outside.Told.{TakesPart}
use Rattle.ppq_handler.specs.declared.outcome.Outcome.{Outcome}
use Rattle.ppq_handler.specs.declared.ending.Ending.{Ending}
use Rattle.ppq_handler.specs.declared.ending.Ending.TheVariants.{Empty, Until, Full}
use Rattle.ppq_handler.specs.Roster.{Place}
use Rattle.ppq_handler.specs.Agenda.{Run, entry, answer_of, places_after, entry_text, follow_ups, ended, turned, in_turn, run_from, AreFrom}
use Rattle.ppq_handler.specs.Parts.{AreByTarget, AnswersAll}
use Rattle.ppq_handler.specs.Rounds.{after_turns, RoundsAreTurns}
use Rattle.ppq_handler.proofs.Rounds.{triples_total, rising_left}
use Rattle.ppq_queue.proofs.ppq_heap.ppq_record.Order.{count_by-append, Rising-in_order, in_order-same_bag, IsSameBag-length}
use Rattle.ppq_queue.proofs.ppq_heap.ppq_record.Fronts.{ranks, ascending-same_bag}
use Rattle.std.proofs.Math.Nat.{mul-pos}
use Rattle.ppq_queue.specs.Sizes.{Numbers, AreInRange, batch_of}
use Rattle.ppq_queue.specs.Shown.{AllTell}
use Rattle.ppq_queue.specs.Holding.{Holding, Keeps, SameRecords}
use Rattle.ppq_text.specs.Gathering.{Gathers}
use Rattle.ppq_event.specs.declared.clock.Clock.{Clock}
use Rattle.ppq_event.proofs.Gathered.{gathers_none}
use Rattle.ppq_event.specs.Waiting.{TookFirst, TakesRound, HasGrown}
use Rattle.ppq_event.specs.Going.{entries_of, prefixed, greatest, ending_before, text_of, HasMade, HasWritten, run_at, later}

-- the greatest is no less than its number
pub greatest-over : (n : ℕ) (xs : List ℕ) → n ≤ greatest n xs
greatest-over n [] = omega arith
greatest-over n (x ∷ xs) = omega (arith, greatest-over (max n x) xs)

-- turns before a run are entries before it; as many are waiting at the end as there were and what follows
record TurnsAre (es : List Triple) (answers : List (Option Outcome)) (waits : ℕ) (run : Run) : Type 0 where
  pub waiting : List ℕ
  pub long : length waiting ≡ length (entries_of es answers)
  pub is : after_turns es answers waits run ≡ prefixed (entries_of es answers) waiting run
  pub top : (n : ℕ) → waits ≤ n → waits + length (flat_map follow_ups answers) ≤ greatest n waiting

turns_are : (es : List Triple) (answers : List (Option Outcome)) (waits : ℕ) (run : Run) → length answers ≡ length es → TurnsAre es answers waits run
turns_are [] [] waits run e = record { waiting = []; long = refl; is = refl; top = λ n h. omega (arith, h) }
turns_are [] (a ∷ answers) waits run e = absurd (omega (arith, e))
turns_are (x ∷ es) [] waits run e = absurd (omega (arith, e))
turns_are (x ∷ es) (a ∷ answers) waits run e =
    let rest = turns_are es answers (waits + length (follow_ups a)) run (omega (arith, e)) in
    let now = length es + waits + length (follow_ups a) in
    record {
      waiting = now ∷ rest.waiting;
      long = omega (arith, rest.long);
      is = ap (turned (entry x a) now) rest.is;
      top = λ n h. omega (arith, rest.top (max n now) (omega arith), length-append (follow_ups a) (flat_map follow_ups answers));
    }

-- of events of one time in ascending order the targets do not fall
target_le : (one other : Triple) → one.time ≡ other.time → Le (is_before triple_cmp) one other → nat_lt other.target one.target ≡ false
target_le one other e h =
    elim (cases_Bool (nat_lt other.target one.target)) as (λ _. nat_lt other.target one.target ≡ false) [
      | inl t ↦ (let less : other.target < one.target = grind (arith, nat_tests, t) in
          let a : Equal ≡ nat_cmp other.time one.time = nat_cmp_is other.time one.time Equal (sym e) in
          let b : Less ≡ nat_cmp other.target one.target = nat_cmp_is other.target one.target Less less in
          let before : is_before triple_cmp other one ≡ true = rw (sym a, sym b) refl in
          cc)
      | inr f ↦ f
    ]

each_target : (e : Triple) (es : List Triple) (time : ℕ) → e.time ≡ time → Each (λ x. x.time ≡ time) es → Each (Le (is_before triple_cmp) e) es → Each (Le (λ one other. nat_lt one.target other.target) e) es
each_target e [] time is h k = tt
each_target e (x ∷ xs) time is h k = (target_le e x (is ∙ sym h.0) k.0, each_target e xs time is h.1 k.1)

by_target : (es : List Triple) (time : ℕ) → Each (λ x. x.time ≡ time) es → Ascends triple_cmp es → AreByTarget es
by_target [] time h k = tt
by_target (e ∷ es) time h k = (each_target e es time h.0 h.1 k.0, by_target es time h.1 k.1)

from_zero : (es : List Triple) → AreFrom 0 es
from_zero [] = tt
from_zero (e ∷ es) = (omega arith, from_zero es)

-- the same multiset has the same agenda
same_agenda : (one other : List Triple) → IsSameBag one other → in_turn one ≡ in_turn other
same_agenda one other h = ascending-same_bag triples_total triple_same one other h

-- the same multiset has the same first event
pub same_least : (one other : List Triple) → IsSameBag one other → least triple_cmp one ≡ least triple_cmp other
same_least one other h = ap (λ (es : List Triple). first_of (take 1 es)) (same_agenda one other h)

-- where the run has not ended, the next event is not too late, and a turn is left
pub is_due : (e : Triple) (until left count : ℕ) (r : Option Ending) → r ≡ ending_before (Some e) until left count → ((x : Ending) → r ≡ Some x → ⊥) → nat_lt until e.time ≡ false
is_due e until left count r is none =
    elim (cases_Bool (nat_lt until e.time)) as (λ _. nat_lt until e.time ≡ false) [
      | inl t ↦ (let late : ending_before (Some e) until left count ≡ Some (Until count) = rw t refl in absurd (none (Until count) (is ∙ late)))
      | inr f ↦ f
    ]

pub is_left : (e : Triple) (until left count : ℕ) (r : Option Ending) → r ≡ ending_before (Some e) until left count → ((x : Ending) → r ≡ Some x → ⊥) → 0 < left
is_left e until left count r is none =
    elim (cases_Bool (nat_eq left 0)) as (λ _. 0 < left) [
      | inl t ↦ (let full : ending_before (Some e) until left count ≡ Some (Full count) = rw (is_due e until left count r is none, t) refl in absurd (none (Full count) (is ∙ full)))
      | inr f ↦ grind (arith, nat_tests, f)
    ]

-- a run that has ended
ended_list : (xs : List Triple) (until left count : ℕ) (places : List Place) (ending : Ending) → ending_before (first_of (take 1 xs)) until left count ≡ Some ending → run_from until left count xs places ≡ ended ending places
ended_list [] until left count places ending h = let same : Empty count ≡ ending = cc in ap (λ e. ended e places) same
ended_list (e ∷ rest) until zero count places ending h = by_test (nat_lt until e.time) h
  where
    by_test : (b : Bool) → cond b (Some (Until count)) (Some (Full count)) ≡ Some ending → ended (cond b (Until count) (Full count)) places ≡ ended ending places
    by_test true is = let same : Until count ≡ ending = cc in ap (λ e. ended e places) same
    by_test false is = let same : Full count ≡ ending = cc in ap (λ e. ended e places) same
ended_list (e ∷ rest) until (suc n) count places ending h = by_test (nat_lt until e.time) (turned (entry e (answer_of 0 (length places) places e)) (length agenda) (run_from until n (suc count) (in_turn agenda) (places_after 0 (length places) places e))) (sym (ap (λ b. cond (nat_lt until e.time) (Some (Until count)) (cond b (Some (Full count)) None)) left) ∙ h)
  where
    left : nat_eq (suc n) 0 ≡ false
    left = grind (arith, nat_tests)

    agenda : List Triple
    agenda = rest ++ follow_ups (answer_of 0 (length places) places e)

    by_test : (b : Bool) (run : Run) → cond b (Some (Until count)) None ≡ Some ending → cond b (ended (Until count) places) run ≡ ended ending places
    by_test true run is = let same : Until count ≡ ending = cc in ap (λ e. ended e places) same
    by_test false run is = cc

-- the run had ended before the next event
pub had_ended :
    (clock : Clock) (bag : List Triple) (places : List Place) (next : Option Triple) (r : Option Ending) (ending : Ending) → next ≡ least triple_cmp bag → r ≡ ending_before next clock.until clock.left clock.count → r ≡ Some ending
    → run_at clock bag places ≡ ended ending places
had_ended clock bag places next r ending first is some =
    ended_list (in_turn bag) clock.until clock.left clock.count places ending (ap (λ o. ending_before o clock.until clock.left clock.count) (sym first) ∙ (sym is ∙ some))

pub nothing_made :
    (whole rest : Run) (n m : ℕ) (told : Option (List ℕ)) (lines : List ℕ) → whole ≡ rest → m ≤ n → HasMade whole rest n m (text_of told lines) (text_of told lines)
nothing_made whole rest n m told lines same peak = record { entries = []; waiting = []; same_long = refl; run = same; gathered = gathers_none told lines; peak = peak }

-- where an event is waiting, a round has one
pub some_of_time :
    (q0 q1 q2 : Holding Triple) (e : Triple) (most : ℕ) (taken : List Triple) → AllTell q0.slots → SameRecords q0 q1 → Keeps q0 q1 → Some e ≡ least triple_cmp q0.bag → TakesRound e.time most q1 q2 taken → 0 < length taken
some_of_time q0 q1 q2 e most taken tell same keeps first took = ((took.took (keeps.tells tell)).one_time e (same_least q1.bag q0.bag (same.bag tell) ∙ sym first) refl).1

-- a queue's batch has a record
pub some_batch : (n : Numbers) → AreInRange n → 0 < batch_of n
some_batch n range = mul-pos (omega (arith, range.some_worker)) (omega (arith, range.two_records))

-- The events of a round were taken and answered: of the first queue those of the second are the same, and the third has the others
module _
    (law : RoundsAreTurns) (clock : Clock) (q0 q1 q2 : Holding Triple) (places places' : List Place) (e : Triple) (room : ℕ) (taken : List Triple) (answers : List (Option Outcome))
    (tell : AllTell q0.slots) (same : SameRecords q0 q1) (keeps : Keeps q0 q1) (peaks : q1.peak ≡ q0.peak) (counted : length q1.bag ≡ q1.size) (within : q1.size ≤ q1.peak)
    (first : Some e ≡ least triple_cmp q0.bag) (due : nat_lt clock.until e.time ≡ false) (took : TakesRound e.time (min clock.left room) q1 q2 taken)
    (answered : AnswersAll 0 (length places) taken places places' answers) (long : length answers ≡ length taken)
  where
    abbrev pub others : List Triple
    others = drop (length taken) (in_turn q1.bag)

    abbrev pub added : List Triple
    added = flat_map follow_ups answers

    bag01 : IsSameBag q1.bag q0.bag
    bag01 = same.bag tell

    got : TookFirst e.time q1.bag q2.bag taken
    got = took.took (keeps.tells tell)

    timed : Each (λ x. x.time ≡ e.time) taken × (0 < length taken)
    timed = got.one_time e (same_least q1.bag q0.bag bag01 ∙ sym first) refl

    abbrev pub rest_of : List Triple → Run
    rest_of agenda = run_from clock.until (clock.left - length taken) (clock.count + length taken) (in_turn agenda) places'

    made : TurnsAre taken answers (length others) (rest_of (others ++ added))
    made = turns_are taken answers (length others) (rest_of (others ++ added)) long

    whole_is : run_at clock q0.bag places ≡ prefixed (entries_of taken answers) made.waiting (rest_of (others ++ added))
    whole_is =
        let up : Ascends triple_cmp (taken ++ others) = subst (Ascends triple_cmp) (sym got.front) (Rising-in_order (is_before triple_cmp) (ranks triples_total) q1.bag) in
        let agenda : in_turn q0.bag ≡ taken ++ others = sym (same_agenda q1.bag q0.bag bag01) ∙ sym got.front in
        let turns : clock.left ≡ length taken + (clock.left - length taken) = omega (arith, took.few) in
        let round = law clock.until e.time (clock.left - length taken) clock.count taken others places (record { one_time = timed.0; due = due; ascends = up }) in
        let all = answered (by_target taken e.time timed.0 (rising_left (is_before triple_cmp) taken others up)) (from_zero taken) in
        let finish : List (Option Outcome) → List Place → Run = λ given left_places. after_turns taken given (length others) (run_from clock.until (clock.left - length taken) (clock.count + length taken) (in_turn (others ++ flat_map follow_ups given)) left_places) in
        ap₂ (λ m es. run_from clock.until m clock.count es places) turns agenda ∙ (round ∙ (ap₂ finish (sym all.0) (sym all.1) ∙ made.is))

    sized : length others ≡ q2.size
    sized =
        let all : length (in_turn q1.bag) ≡ length q1.bag = IsSameBag-length (in_turn q1.bag) q1.bag (in_order-same_bag (is_before triple_cmp) (ranks triples_total) q1.bag) in
        omega (arith, length-drop (length taken) (in_turn q1.bag), all, counted, took.size, took.within)

    top : (m : ℕ) → m ≤ max q2.peak (q2.size + length added) → m ≤ greatest q0.peak made.waiting
    top m le = omega (arith, le, sized, peaks, took.peak, within, took.size, greatest-over q0.peak made.waiting, made.top q0.peak (omega (arith, sized, took.size, within, peaks)))

    module _ (told told' : Option (List ℕ)) (lines lines' : List ℕ) where
      -- the round was made, and what follows was added
      pub round_made :
          (q3 : Holding Triple) → Gathers told told' lines (flat_map entry_text (entries_of taken answers)) lines' → HasGrown q2 q3 added
          → HasMade (run_at clock q0.bag places) (run_at (later clock (length taken)) q3.bag places') q0.peak q3.peak (text_of told lines) (text_of told' lines')
      round_made q3 gathered grown =
          let bag : IsSameBag (others ++ added) q3.bag = λ p. omega (arith, grown.bag (took.keeps.tells (keeps.tells tell)) p, got.rest p, count_by-append p others added, count_by-append p q2.bag added) in
          record {
            entries = entries_of taken answers;
            waiting = made.waiting;
            same_long = made.long;
            run = whole_is ∙ ap (λ (es : List Triple). prefixed (entries_of taken answers) made.waiting (run_from clock.until (clock.left - length taken) (clock.count + length taken) es places')) (same_agenda (others ++ added) q3.bag bag);
            gathered = gathered;
            peak = top q3.peak (omega (arith, grown.peak, grown.size));
          }

      -- the round was made, and not all that follows was added
      pub round_stopped :
          (q3 : Holding Triple) → Gathers told told' lines (flat_map entry_text (entries_of taken answers)) lines' → q3.peak ≤ max q2.peak (q2.size + length added)
          → (rest : Run) × HasMade (run_at clock q0.bag places) rest q0.peak q3.peak (text_of told lines) (text_of told' lines')
      round_stopped q3 gathered peak =
          (rest_of (others ++ added), record { entries = entries_of taken answers; waiting = made.waiting; same_long = made.long; run = whole_is; gathered = gathered; peak = top q3.peak peak })

      -- the sink failed at the round's lines
      pub round_unwritten : TakesPart told told' (lines ++ flat_map entry_text (entries_of taken answers)) → HasWritten (run_at clock q0.bag places) (text_of told lines) (text_of told' lines')
      round_unwritten part = record { entries = entries_of taken answers; waiting = made.waiting; rest = rest_of (others ++ added); run = whole_is; part = part }
