-- What a run has that has no record left.
use Rattle.std.proofs.Common.{◌≡◌, ℕ, ◌<◌, List, [], ◌∷◌, ◌++◌, length, Option, Some, IsNone, ◌↔◌, All, subst, refl, ap, ap₂, arith, length-append}
use Rattle.std.proofs.lemmas.List.{nil_from_length}
use Rattle.std.proofs.lemmas.List.Sums.{sum_by-cons, sum_by-append}
use Rattle.ppq_fetch.specs.ppq_outside.Shown.{Shown}
use Rattle.ppq_fetch.specs.ppq_array.declared.berth.DeviceBlock.{DeviceBlock}
use Rattle.ppq_fetch.specs.ppq_array.Run.{Run, IsRun, items_of, buffers_of}
use Rattle.ppq_fetch.specs.ppq_array.External.{External, IsLabelled, counts, size_of, waiting}
use Rattle.ppq_fetch.proofs.ppq_array.Items.{no_items, no_live}
use Rattle.ppq_extract.specs.Emptied.{IsEmptyRun, IsEmptyArray}

module _ {R : Type 0} where
  pub empty_run : (run : Run R) → IsRun run → run.spent ≡ [] → length (items_of run) ≡ 0 → IsEmptyRun run
  empty_run run is unspent none = record { live = no_live run.live run.taken is.taken (nil_from_length (items_of run) none); spent = unspent }

  pub no_items_in : (run : Run R) → IsEmptyRun run → items_of run ≡ []
  no_items_in run is = no_items run.live run.taken is.live

  pub no_buffers_in : (run : Run R) → IsEmptyRun run → length (buffers_of run) ≡ 0
  no_buffers_in run is = omega (arith, length-append run.spent run.live, ap length is.live, ap length is.spent)

  pub no_length : (run : Run R) → IsEmptyRun run → length (items_of run) ≡ 0
  no_length run is = ap length (no_items_in run is)

module _ {S R : Type 0} where
  pub empty_array : (a : External S R) → IsRun a.loaded → a.loaded.spent ≡ [] → a.lifted ≡ [] → a.stored ≡ [] → length (items_of a.loaded) ≡ 0 → IsEmptyArray a
  empty_array a is unspent lifted stored none = record { loaded = empty_run a.loaded is unspent none; lifted = lifted; stored = stored }

  pub no_waiting : (a : External S R) → IsEmptyArray a → waiting a ≡ []
  no_waiting a is = ap₂ (λ (xs ys : List (DeviceBlock S R)). xs ++ ys) is.lifted is.stored

  pub no_size : (a : External S R) → IsEmptyArray a → size_of a ≡ 0
  no_size a is = omega (arith, no_length a.loaded is.loaded, ap counts (no_waiting a is))

  -- a run with a stored block has a record
  pub some_stored : (record_of : List ℕ → R) (width : ℕ) (shown : S → Shown) (a : External S R) → All (IsLabelled record_of width shown) a.stored → (a.stored ≡ [] → ⊥) → 0 < size_of a
  some_stored record_of width shown a labelled some = some_of a.stored labelled some refl
    where
      some_of : (stored : List (DeviceBlock S R)) → All (IsLabelled record_of width shown) stored → (stored ≡ [] → ⊥) → a.stored ≡ stored → 0 < size_of a
      some_of [] labelled some e = absurd (some refl)
      some_of (b ∷ bs) labelled some e = omega (arith, sum_by-append (λ (b : DeviceBlock S R). b.count) a.lifted a.stored, ap counts e, sum_by-cons (λ (b : DeviceBlock S R). b.count) b bs, (labelled 0 b (omega arith)).some)

  pub some_next :
      (record_of : List ℕ → R) (width : ℕ) (shown : S → Shown) (a : External S R) (next : Option R) (x : R) → next ≡ Some x → (IsNone next ↔ (a.stored ≡ [])) → All (IsLabelled record_of width shown) a.stored → 0 < size_of a
  some_next record_of width shown a next x e none labelled = some_stored record_of width shown a labelled (λ h. let no : IsNone (Some x) = subst IsNone e (none.1 h) in absurd (cc))

  pub some_loaded : (a : External S R) → 0 < length (items_of a.loaded) → 0 < size_of a
  some_loaded a some = omega arith
