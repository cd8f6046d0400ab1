-- Slots that are moved: their sums stay.
use Rattle.std.proofs.Common.{◌≡◌, ℕ, ◌+◌, List, [], ◌∷◌, ◌++◌, length, take, drop, map, reverse, sum_by, refl, sym, ap, ◌∙◌, arith, append-nil, length-append}
use Rattle.std.proofs.lemmas.List.{map-append, reverse-append, length-reverse, drop_all, take_all}
use Rattle.std.proofs.lemmas.List.Sums.{sum_by-cons, sum_by-append}
use Rattle.std.proofs.lemmas.List.Concat.{flat_map-cons}
use Rattle.ppq_extract.specs.ppq_outside.Shown.{Shown}
use Rattle.ppq_extract.specs.ppq_array.External.{External}
use Rattle.ppq_extract.specs.ppq_array.Kept.{SameSlots, AreQuiet, all_faults}
use Rattle.ppq_extract.specs.ppq_array.Supply.{Stock}
use Rattle.ppq_extract.specs.ppq_array.Owner.{slots_shown}
use Rattle.ppq_extract.specs.ppq_array.Holdings.{external_slots}
use Rattle.ppq_spill.proofs.SameSlots.{SameSlots-sums}
use Rattle.ppq_spill.proofs.Keeping.{slots_more, slots_long, sum_ones}
use Rattle.ppq_spill.specs.Body.{job_slots}
use Rattle.ppq_spill.specs.Leveling.{arrays_before, arrays_after}
use Rattle.ppq_spill.specs.declared.body.PassBody.{PassBody}
use Rattle.ppq_queue.specs.Resting.{slots_of}
use Rattle.ppq_queue.specs.Slots.{SameSums}

module _ {S : Type 0} (shown : S → Shown) where
  pub shown-push : (xs : List S) (x : S) → map shown (xs ++ x ∷ []) ≡ map shown xs ++ shown x ∷ []
  shown-push xs x = map-append shown xs (x ∷ [])

  -- one slot more at the end
  pub sum-push : (f : Shown → ℕ) (xs : List S) (x : S) → sum_by f (map shown (xs ++ x ∷ [])) ≡ sum_by f (map shown xs) + f (shown x)
  sum-push f xs x = ap (sum_by f) (shown-push xs x) ∙ omega (arith, sum_by-append f (map shown xs) (shown x ∷ []), sum_by-cons f (shown x) [])

  pub sum-reverse : (f : Shown → ℕ) (xs : List S) → sum_by f (map shown (reverse xs)) ≡ sum_by f (map shown xs)
  sum-reverse f [] = refl
  sum-reverse f (x ∷ xs) =
      ap (λ (l : List S). sum_by f (map shown l)) (reverse-append (x ∷ []) xs) ∙ sum-push f (reverse xs) x ∙ omega (arith, sum-reverse f xs, sum_by-cons f (shown x) (map shown xs))

-- lists with the same sums are as long
pub SameSums-length : (a b : List Shown) → SameSums a b → length b ≡ length a
SameSums-length a b h = omega (arith, sum_ones a, sum_ones b, h (λ _. 1))

module _ {S : Type 0} (shown : S → Shown) where
  -- slots that were put into boxes, and then came out of them again
  pub berths_back :
      (xs mid rest pushed final : List S) (slot : S) (kept : List Shown)
      → mid ≡ reverse xs → map shown (reverse mid) ≡ kept ++ (shown slot ∷ map shown (reverse rest)) → pushed ≡ rest ++ slot ∷ [] → map shown final ≡ map shown pushed ++ kept
      → SameSums (map shown xs) (map shown final)
  berths_back xs mid rest pushed final slot kept e part p end f =
      omega (
        arith,
        sum-reverse shown f xs,
        ap (λ (l : List S). sum_by f (map shown l)) e,
        sum-reverse shown f mid,
        ap (sum_by f) part,
        sum_by-append f kept (shown slot ∷ map shown (reverse rest)),
        sum_by-cons f (shown slot) (map shown (reverse rest)),
        sum-reverse shown f rest,
        ap (λ (l : List S). sum_by f (map shown l)) p,
        sum-push shown f rest slot,
        ap (sum_by f) end,
        sum_by-append f (map shown pushed) kept,
      )

module _ {S R : Type 0} (shown : S → Shown) where
  -- one run more at the end
  pub stored-push : (arrays : List (External S R)) (array : External S R) (f : Shown → ℕ) → sum_by f (external_slots shown (arrays ++ array ∷ [])) ≡ sum_by f (external_slots shown arrays) + sum_by f (slots_shown shown array.stored)
  stored-push arrays array f = ap (sum_by f) (slots_more shown arrays array) ∙ sum_by-append f (external_slots shown arrays) (slots_shown shown array.stored)

  pub stored-push_length : (arrays : List (External S R)) (array : External S R) → length (external_slots shown (arrays ++ array ∷ [])) ≡ length (external_slots shown arrays) + length array.stored
  stored-push_length arrays array = omega (arith, ap length (slots_more shown arrays array), length-append (external_slots shown arrays) (slots_shown shown array.stored), slots_long shown array.stored)

  pub no_stored : (f : Shown → ℕ) (arrays : List (External S R)) → length arrays ≡ 0 → sum_by f (external_slots shown arrays) ≡ 0
  no_stored f [] h = refl
  no_stored f (x ∷ xs) h = absurd (omega arith)

-- a list that was turned in place
pub turned : {A : Type 0} (xs rev : List A) (len : ℕ) → rev ≡ reverse xs → len ≡ length xs → take len (rev ++ drop (length rev) xs) ≡ reverse xs
turned xs rev len e l =
    let long : length rev ≡ length xs = ap length e ∙ length-reverse xs in
    ap (λ ys. take len (rev ++ ys)) (drop_all (length rev) xs (omega (arith, long))) ∙ ap (take len) (append-nil rev) ∙ take_all len rev (omega (arith, long, l)) ∙ e

pub slots-sums : (a b : List Shown) → SameSums a b → SameSlots a b
slots-sums a b h = SameSlots-sums a b h (sym (SameSums-length a b h))

-- an owner draws from no row
pub no_row_more : (xs ys : List Shown) → ys ≡ [] → xs ++ ys ≡ xs
no_row_more xs ys e = ap (λ (l : List Shown). xs ++ l) e ∙ append-nil xs

-- the slots that are kept, where none was drawn from a row
pub kept-sums : (kept kept' drawn drawn' : List Shown) → drawn ≡ [] → drawn' ≡ [] → SameSums (kept ++ drawn') (kept' ++ drawn) → SameSums kept kept'
kept-sums kept kept' drawn drawn' e e' h f = sym (ap (sum_by f) (no_row_more kept drawn' e')) ∙ h f ∙ ap (sum_by f) (no_row_more kept' drawn e)

module _ {S R : Type 0} (shown : S → Shown) where
  -- the slots of runs, run by run
  pub sum-stored : (f : Shown → ℕ) (arrays : List (External S R)) → sum_by f (external_slots shown arrays) ≡ sum_by (λ (a : External S R). sum_by f (slots_shown shown a.stored)) arrays
  sum-stored f [] = refl
  sum-stored f (x ∷ xs) =
      omega (
        arith,
        ap (sum_by f) (flat_map-cons (λ (a : External S R). slots_shown shown a.stored) x xs),
        sum_by-append f (slots_shown shown x.stored) (external_slots shown xs),
        sum-stored f xs,
        sum_by-cons (λ (a : External S R). sum_by f (slots_shown shown a.stored)) x xs,
      )

  -- without jobs, the slots are those of runs and the free ones
  pub slots-no_job : (a : PassBody S R) (s : Stock) → a.lanes.jobs.items ≡ [] → slots_of shown a s ≡ external_slots shown a.runs.external.items ++ s.kept
  slots-no_job a s e = ap (λ l. external_slots shown a.runs.external.items ++ job_slots shown l ++ s.kept) e ∙ ap (λ (l : List Shown). l ++ s.kept) (append-nil (external_slots shown a.runs.external.items))

  module _ (a b : PassBody S R) (s t : Stock) (none : a.lanes.jobs.items ≡ []) (none' : b.lanes.jobs.items ≡ []) where
    -- no call of a slot of runs failed, nor of one that is free
    pub quiet-free : AreQuiet (external_slots shown a.runs.external.items ++ s.kept) (external_slots shown b.runs.external.items ++ t.kept) → AreQuiet (slots_of shown a s) (slots_of shown b t)
    quiet-free quiet = ap all_faults (slots-no_job b t none') ∙ quiet ∙ sym (ap all_faults (slots-no_job a s none))

    -- the same, where no slot was drawn from a row
    pub quiet-arrays : s.drawn ≡ [] → t.drawn ≡ [] → AreQuiet (arrays_before shown a.runs.external.items s t) (arrays_after shown b.runs.external.items s t) → AreQuiet (slots_of shown a s) (slots_of shown b t)
    quiet-arrays no_row no_row' quiet =
        quiet-free (sym (ap all_faults (no_row_more (external_slots shown b.runs.external.items ++ t.kept) s.drawn no_row)) ∙ quiet ∙ ap all_faults (no_row_more (external_slots shown a.runs.external.items ++ s.kept) t.drawn no_row'))

    -- no slot was called
    pub quiet-same : SameSums (external_slots shown a.runs.external.items) (external_slots shown b.runs.external.items) → SameSums s.kept t.kept → AreQuiet (slots_of shown a s) (slots_of shown b t)
    quiet-same runs kept =
        let f : Shown → ℕ = λ x. x.faults in
        quiet-free (omega (arith, sum_by-append f (external_slots shown a.runs.external.items) s.kept, sum_by-append f (external_slots shown b.runs.external.items) t.kept, runs f, kept f))
