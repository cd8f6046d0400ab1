-- How many buffers, blocks and records the runs of a pass have.
use Rattle.std.proofs.Common.{◌≡◌, ℕ, ◌+◌, ◌*◌, ◌<◌, ◌≤◌, List, [], ◌∷◌, ◌++◌, length, sum_by, All, ap, arith, length-append}
use Rattle.std.proofs.lemmas.List.Sums.{sum_by-cons}
use Rattle.std.proofs.lemmas.List.Elements.{All-head, All-tail}
use Rattle.std.proofs.lemmas.List.Concat.{flat_map-cons}
use Rattle.std.proofs.Math.Nat.{suc-mul, add-mul, mul_assoc, mul-le-mul_right, le_of_mul-le-mul_right}
use Rattle.ppq_extract.specs.ppq_outside.Shown.{Shown}
use Rattle.ppq_extract.specs.ppq_array.Run.{Run, items_of, buffers_of}
use Rattle.ppq_extract.specs.ppq_array.External.{External, counts, size_of, waiting}
use Rattle.ppq_extract.specs.ppq_array.Owner.{slots_shown}
use Rattle.ppq_extract.specs.ppq_array.Holdings.{internal_items, internal_buffers, external_slots}
use Rattle.ppq_spill.proofs.Blocks.{counts_full}
use Rattle.ppq_spill.proofs.Keeping.{slots_long}
use Rattle.ppq_spill.proofs.Starts.{run_fit}
use Rattle.ppq_pass.specs.PassState.{IsPassRun, IsPassArray}

module _ {R : Type 0} where
  -- the run of a full heap has a buffer for each block of the heap
  run_buffers : (block h : ℕ) (run : Run R) → 0 < block → IsPassRun block (h * block) run → h ≤ length (buffers_of run)
  run_buffers block h run some is = le_of_mul-le-mul_right (omega (arith, run_fit block run is.blocks is.fitting, is.whole)) some

  pub runs_buffers : (block h : ℕ) (runs : List (Run R)) → 0 < block → All (IsPassRun block (h * block)) runs → length runs * h ≤ internal_buffers runs
  runs_buffers block h [] some a = omega arith
  runs_buffers block h (r ∷ rs) some a =
      let one = run_buffers block h r some (All-head (IsPassRun block (h * block)) r rs a) in
      let more = runs_buffers block h rs some (All-tail (IsPassRun block (h * block)) r rs a) in
      omega (arith, one, more, suc-mul (length rs) h, sum_by-cons (λ (run : Run R). length (buffers_of run)) r rs)

  -- and the records of a full heap
  pub runs_records : (block heap : ℕ) (runs : List (Run R)) → All (IsPassRun block heap) runs → length (internal_items runs) ≡ length runs * heap
  runs_records block heap [] a = omega arith
  runs_records block heap (r ∷ rs) a =
      let one = (All-head (IsPassRun block heap) r rs a).whole in
      let more = runs_records block heap rs (All-tail (IsPassRun block heap) r rs a) in
      omega (arith, one, more, suc-mul (length rs) heap, ap length (flat_map-cons (λ (run : Run R). items_of run) r rs), length-append (items_of r) (internal_items rs))

  pub runs_count : (runs : List (Run R)) → sum_by (λ (run : Run R). length (items_of run)) runs ≡ length (internal_items runs)
  runs_count [] = omega arith
  runs_count (r ∷ rs) = omega (arith, runs_count rs, sum_by-cons (λ (run : Run R). length (items_of run)) r rs, ap length (flat_map-cons (λ (run : Run R). items_of run) r rs), length-append (items_of r) (internal_items rs))

  -- no more records than the buffers hold
  pub records_fit : (block h : ℕ) (runs : List (Run R)) → 0 < block → All (IsPassRun block (h * block)) runs → length (internal_items runs) ≤ internal_buffers runs * block
  records_fit block h runs some a =
      let product : length runs * h * block ≤ internal_buffers runs * block = mul-le-mul_right block (runs_buffers block h runs some a) in
      omega (arith, runs_records block (h * block) runs a, mul_assoc (length runs) h block, product)

module _ {S R : Type 0} (shown : S → Shown) (width : ℕ) where
  pub array_size : (block heap : ℕ) (a : External S R) → IsPassArray shown width block heap a → size_of a ≡ length a.stored * block
  array_size block heap a is =
      let none : length (items_of a.loaded) ≡ 0 = ap (λ r. length (items_of r)) is.loaded in
      let same : counts (waiting a) ≡ counts a.stored = ap (λ l. counts (l ++ a.stored)) is.lifted in
      omega (arith, none, same, counts_full block a.stored is.full)

  array_blocks : (block h : ℕ) (a : External S R) → 0 < block → IsPassArray shown width block (h * block) a → h ≤ length a.stored
  array_blocks block h a some is = le_of_mul-le-mul_right (omega (arith, is.whole, array_size block (h * block) a is)) some

  one_more_array : (a : External S R) (rest : List (External S R)) → length (external_slots shown (a ∷ rest)) ≡ length a.stored + length (external_slots shown rest)
  one_more_array a rest =
      omega (
        arith,
        ap length (flat_map-cons (λ (x : External S R). slots_shown shown x.stored) a rest),
        length-append (slots_shown shown a.stored) (external_slots shown rest),
        slots_long shown a.stored,
      )

  -- each run in blocks has a block for each block of a heap
  pub arrays_blocks : (block h : ℕ) (arrays : List (External S R)) → 0 < block → All (IsPassArray shown width block (h * block)) arrays → length arrays * h ≤ length (external_slots shown arrays)
  arrays_blocks block h [] some a = omega arith
  arrays_blocks block h (x ∷ xs) some a =
      let one = array_blocks block h x some (All-head (IsPassArray shown width block (h * block)) x xs a) in
      let more = arrays_blocks block h xs some (All-tail (IsPassArray shown width block (h * block)) x xs a) in
      omega (arith, one, more, suc-mul (length xs) h, one_more_array x xs)

  -- and all blocks are full
  pub arrays_size : (block heap : ℕ) (arrays : List (External S R)) → All (IsPassArray shown width block heap) arrays → sum_by size_of arrays ≡ length (external_slots shown arrays) * block
  arrays_size block heap [] a = omega arith
  arrays_size block heap (x ∷ xs) a =
      let one = array_size block heap x (All-head (IsPassArray shown width block heap) x xs a) in
      let more = arrays_size block heap xs (All-tail (IsPassArray shown width block heap) x xs a) in
      let product : (length x.stored + length (external_slots shown xs)) * block ≡ length x.stored * block + length (external_slots shown xs) * block = add-mul (length x.stored) (length (external_slots shown xs)) block in
      let same : length (external_slots shown (x ∷ xs)) * block ≡ (length x.stored + length (external_slots shown xs)) * block = ap (λ k. k * block) (one_more_array x xs) in
      omega (arith, one, more, product, same, sum_by-cons (λ (y : External S R). size_of y) x xs)
