-- Entries and follow-ups of the first events of a list.
use Rattle.std.proofs.Common.{◌≡◌, ℕ, zero, suc, ◌+◌, ◌<◌, ◌≤◌, List, [], ◌∷◌, ◌++◌, length, drop, take, get_or, refl, sym, ap, subst, ◌∙◌, arith, Option, append_assoc, append-nil, length-append}
use Rattle.std.specs.Prelude.{flat_map}
use Rattle.std.proofs.lemmas.List.{take_more, drop_more, take-append-drop}
use Rattle.std.proofs.lemmas.Grind.{flat_map-append}
use Rattle.ppq_handler.specs.ppq_record.declared.triple.Triple.{Triple}
use Rattle.ppq_handler.specs.declared.outcome.Outcome.{Outcome}
use Rattle.ppq_handler.specs.ppq_outside.Told.{TakesPart}
use Rattle.ppq_handler.specs.Agenda.{Entry, entry, entry_text}
use Rattle.ppq_queue.proofs.ppq_outside.Takes.{part_of_more}
use Rattle.ppq_text.specs.Gathering.{Gathers}
use Rattle.ppq_event.proofs.Gathered.{gathers_more, part_gathered}
use Rattle.ppq_event.specs.Going.{entries_of}

module _ {X Y : Type 0} (f : X → List Y) where
  -- one item more
  pub first_more : (xs : List X) (i : ℕ) (d : X) → i < length xs → flat_map f (take (i + 1) xs) ≡ flat_map f (take i xs) ++ f (get_or xs i d)
  first_more xs i d within = ap (flat_map f) (take_more xs i d within) ∙ (flat_map-append f (take i xs) (get_or xs i d ∷ []) ∙ ap (λ (ys : List Y). flat_map f (take i xs) ++ ys) (append-nil (f (get_or xs i d))))

  -- the first items, one more, and the others
  pub three_parts : (xs : List X) (i : ℕ) (d : X) → i < length xs → flat_map f xs ≡ flat_map f (take i xs) ++ (f (get_or xs i d) ++ flat_map f (drop (i + 1) xs))
  three_parts xs i d within =
      sym (ap (flat_map f) (take-append-drop i xs)) ∙ (flat_map-append f (take i xs) (drop i xs) ∙ ap (λ (ys : List X). flat_map f (take i xs) ++ flat_map f ys) (drop_more xs i d within))

  -- so these are no more than all
  pub within_all : (xs : List X) (i : ℕ) (d : X) → i < length xs → length (flat_map f (take i xs)) + length (f (get_or xs i d)) ≤ length (flat_map f xs)
  within_all xs i d within =
      let parts = ap length (three_parts xs i d within) in
      omega (arith, parts, length-append (flat_map f (take i xs)) (f (get_or xs i d) ++ flat_map f (drop (i + 1) xs)), length-append (f (get_or xs i d)) (flat_map f (drop (i + 1) xs)))

-- the entries of the first events, and one more
entries_next :
    (events : List Triple) (answers : List (Option Outcome)) (i : ℕ) (e : Triple) (a : Option Outcome) → i < length events → length answers ≡ length events
    → entries_of (take (suc i) events) (take (suc i) answers) ≡ entries_of (take i events) (take i answers) ++ (entry (get_or events i e) (get_or answers i a) ∷ [])
entries_next [] answers i e a within same = absurd (omega (arith, within))
entries_next (x ∷ events) [] i e a within same = absurd (omega (arith, same))
entries_next (x ∷ events) (y ∷ answers) zero e a within same = refl
entries_next (x ∷ events) (y ∷ answers) (suc i) e a within same = ap (λ (es : List Entry). entry x y ∷ es) (entries_next events answers i e a (omega (arith, within)) (omega (arith, same)))

entries_more :
    (events : List Triple) (answers : List (Option Outcome)) (i : ℕ) (e : Triple) (a : Option Outcome) → i < length events → length answers ≡ length events
    → entries_of (take (i + 1) events) (take (i + 1) answers) ≡ entries_of (take i events) (take i answers) ++ (entry (get_or events i e) (get_or answers i a) ∷ [])
entries_more events answers i e a within same =
    let next : i + 1 ≡ suc i = omega arith in
    ap (λ n. entries_of (take n events) (take n answers)) next ∙ entries_next events answers i e a within same

-- the entries of the first events, and those of the others
pub entries_parts :
    (events : List Triple) (answers : List (Option Outcome)) (i : ℕ) → length answers ≡ length events
    → entries_of events answers ≡ entries_of (take i events) (take i answers) ++ entries_of (drop i events) (drop i answers)
entries_parts [] [] zero same = refl
entries_parts [] [] (suc i) same = refl
entries_parts [] (y ∷ answers) i same = absurd (omega (arith, same))
entries_parts (x ∷ events) [] i same = absurd (omega (arith, same))
entries_parts (x ∷ events) (y ∷ answers) zero same = refl
entries_parts (x ∷ events) (y ∷ answers) (suc i) same = ap (λ (es : List Entry). entry x y ∷ es) (entries_parts events answers i (omega (arith, same)))

-- the lines of the first events were gathered, and a part of what is gathered was written
pub lines_part :
    (told mid told' : Option (List ℕ)) (had between : List ℕ) (events : List Triple) (answers : List (Option Outcome)) (i : ℕ) → length answers ≡ length events
    → Gathers told mid had (flat_map entry_text (entries_of (take i events) (take i answers))) between → TakesPart mid told' between → TakesPart told told' (had ++ flat_map entry_text (entries_of events answers))
lines_part told mid told' had between events answers i same h took =
    let first = flat_map entry_text (entries_of (take i events) (take i answers)) in
    let rest = flat_map entry_text (entries_of (drop i events) (drop i answers)) in
    let all : first ++ rest ≡ flat_map entry_text (entries_of events answers) = sym (ap (flat_map entry_text) (entries_parts events answers i same) ∙ flat_map-append entry_text (entries_of (take i events) (take i answers)) (entries_of (drop i events) (drop i answers))) in
    subst (λ t. TakesPart told told' (had ++ t)) all (subst (TakesPart told told') (append_assoc had first rest) (part_of_more told told' (had ++ first) rest (part_gathered told mid told' had between first h took)))

-- one line more
pub lines_more :
    (told mid told' : Option (List ℕ)) (had between has : List ℕ) (events : List Triple) (answers : List (Option Outcome)) (i : ℕ) (e : Triple) (a : Option Outcome) → i < length events → length answers ≡ length events
    → Gathers told mid had (flat_map entry_text (entries_of (take i events) (take i answers))) between → Gathers mid told' between (entry_text (entry (get_or events i e) (get_or answers i a))) has
    → Gathers told told' had (flat_map entry_text (entries_of (take (i + 1) events) (take (i + 1) answers))) has
lines_more told mid told' had between has events answers i e a within same h k =
    let first = entries_of (take i events) (take i answers) in
    let now = entry (get_or events i e) (get_or answers i a) in
    let all : flat_map entry_text first ++ entry_text now ≡ flat_map entry_text (entries_of (take (i + 1) events) (take (i + 1) answers)) =
    sym (ap (flat_map entry_text) (entries_more events answers i e a within same) ∙ (flat_map-append entry_text first (now ∷ []) ∙ ap (λ (ys : List ℕ). flat_map entry_text first ++ ys) (append-nil (entry_text now)))) in
    subst (λ t. Gathers told told' had t has) all (gathers_more told mid told' had between has (flat_map entry_text first) (entry_text now) h k)
