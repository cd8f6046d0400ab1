-- How many buffers, blocks and records runs have.
use Rattle.std.proofs.Common.{◌≡◌, ℕ, suc, ◌+◌, ◌-◌, ◌*◌, ◌<◌, ◌≤◌, List, [], ◌∷◌, ◌++◌, length, take, sum_by, All, refl, sym, ap, ◌∙◌, subst, arith, length-append, length-drop}
use Rattle.std.specs.Prelude.{flat_map, Option, Some, None, IsSome}
use Rattle.std.proofs.lemmas.List.Sums.{sum_by-cons, sum_by-append}
use Rattle.std.proofs.lemmas.List.Elements.{All-head, All-tail}
use Rattle.std.proofs.lemmas.List.Concat.{flat_map-cons}
use Rattle.std.proofs.Math.Nat.{suc-mul, zero-mul, add-mul}
use Rattle.ppq_extract.specs.ppq_outside.Shown.{Shown, Tells}
use Rattle.ppq_extract.specs.ppq_block.Told.{records_told}
use Rattle.ppq_extract.proofs.ppq_block.Blocks.{length-records_from}
use Rattle.ppq_extract.specs.ppq_block.Block.{Block, all_items}
use Rattle.ppq_extract.specs.ppq_array.declared.berth.DeviceBlock.{DeviceBlock}
use Rattle.ppq_extract.specs.ppq_array.Run.{Run, items_of, buffers_of}
use Rattle.ppq_extract.specs.ppq_array.External.{External, counts, waiting, size_of, records_in, blocks_items, block_items}
use Rattle.ppq_extract.specs.ppq_array.Owner.{slots_shown}
use Rattle.ppq_extract.specs.ppq_array.Holdings.{internal_items, internal_buffers, external_buffers, external_slots}
use Rattle.ppq_extract.proofs.ppq_array.Noted.{all_left, all_right}
use Rattle.ppq_extract.specs.ppq_fetch.Fetching.{one_if_some, fronts_in, blocks_in, count_in}
use Rattle.ppq_extract.proofs.ppq_fetch.Sums.{one_le}
use Rattle.ppq_spill.proofs.Keeping.{slots_long}
use Rattle.ppq_spill.proofs.Starts.{run_fit}
use Rattle.ppq_queue.specs.Resting.{IsRestingRun, IsRestingArray}

one_more : (k b : ℕ) → suc k * b ≡ k * b + b
one_more k b = suc-mul k b

module _ {R : Type 0} where
  -- a run with a record has a buffer
  pub run_some : (run : Run R) → 0 < length (items_of run) → 1 ≤ length (buffers_of run)
  run_some run h = by_live run.live refl
    where
      by_live : (live : List (Block R)) → live ≡ run.live → 1 ≤ length (buffers_of run)
      by_live [] e = absurd (omega (arith, h, length-drop run.taken (all_items run.live), ap (λ (l : List (Block R)). length (all_items l)) e))
      by_live (b ∷ bs) e = omega (arith, length-append run.spent run.live, ap length e)

  pub runs_some : (block : ℕ) (runs : List (Run R)) → All (IsRestingRun block) runs → length runs ≤ internal_buffers runs
  runs_some block [] a = omega arith
  runs_some block (r ∷ rs) a =
      let here = run_some r (All-head (IsRestingRun block) r rs a).some in
      omega (arith, here, runs_some block rs (All-tail (IsRestingRun block) r rs a), sum_by-cons (λ (run : Run R). length (buffers_of run)) r rs)

  pub runs_fit : (block : ℕ) (runs : List (Run R)) → All (IsRestingRun block) runs → length (internal_items runs) ≤ internal_buffers runs * block
  runs_fit block [] a = omega arith
  runs_fit block (r ∷ rs) a =
      let is = All-head (IsRestingRun block) r rs a in
      let here = run_fit block r is.blocks is.fitting in
      let more = runs_fit block rs (All-tail (IsRestingRun block) r rs a) in
      let sums : internal_buffers (r ∷ rs) * block ≡ length (buffers_of r) * block + internal_buffers rs * block = ap (λ n. n * block) (sum_by-cons (λ (run : Run R). length (buffers_of run)) r rs) ∙ add-mul (length (buffers_of r)) (internal_buffers rs) block in
      omega (arith, here, more, sums, ap length (flat_map-cons (λ (run : Run R). items_of run) r rs), length-append (items_of r) (internal_items rs))

  -- how many records runs in buffers have, by each
  pub internal_count : (runs : List (Run R)) → length (internal_items runs) ≡ sum_by (λ run. length (items_of run)) runs
  internal_count [] = refl
  internal_count (r ∷ rs) = omega (arith, ap length (flat_map-cons (λ (run : Run R). items_of run) r rs), length-append (items_of r) (internal_items rs), internal_count rs, sum_by-cons (λ (run : Run R). length (items_of run)) r rs)

module _ {S R : Type 0} where
  pub counts_fit : (block : ℕ) (blocks : List (DeviceBlock S R)) → All (λ (b : DeviceBlock S R). b.count ≤ block) blocks → counts blocks ≤ length blocks * block
  counts_fit block [] a = omega arith
  counts_fit block (b ∷ bs) a =
      let here : b.count ≤ block = All-head (λ (b : DeviceBlock S R). b.count ≤ block) b bs a in
      omega (arith, here, counts_fit block bs (All-tail (λ (b : DeviceBlock S R). b.count ≤ block) b bs a), one_more (length bs) block, sum_by-cons (λ (b : DeviceBlock S R). b.count) b bs)

  pub counts_full : (block : ℕ) (blocks : List (DeviceBlock S R)) → All (λ (b : DeviceBlock S R). b.count ≡ block) (take (length blocks - 1) blocks) → length blocks * block ≤ counts blocks + block
  counts_full block [] a = omega arith
  counts_full block (b ∷ []) a = omega (arith, one_more 0 block, zero-mul block)
  counts_full block (b ∷ (d ∷ ds)) a =
      let n : length (b ∷ (d ∷ ds)) - 1 ≡ suc (length ds) = omega arith in
      let a' : All (λ (x : DeviceBlock S R). x.count ≡ block) (b ∷ take (length ds) (d ∷ ds)) = subst (λ (k : ℕ). All (λ (x : DeviceBlock S R). x.count ≡ block) (take k (b ∷ (d ∷ ds)))) n a in
      let m : length (d ∷ ds) - 1 ≡ length ds = omega arith in
      let tail : All (λ (x : DeviceBlock S R). x.count ≡ block) (take (length (d ∷ ds) - 1) (d ∷ ds)) = subst (λ (k : ℕ). All (λ (x : DeviceBlock S R). x.count ≡ block) (take k (d ∷ ds))) (sym m) (All-tail (λ (x : DeviceBlock S R). x.count ≡ block) b (take (length ds) (d ∷ ds)) a') in
      let here : b.count ≡ block = All-head (λ (x : DeviceBlock S R). x.count ≡ block) b (take (length ds) (d ∷ ds)) a' in
      omega (arith, here, counts_full block (d ∷ ds) tail, one_more (length (d ∷ ds)) block, sum_by-cons (λ (x : DeviceBlock S R). x.count) b (d ∷ ds))

  pub waiting_is : (a : External S R) → a.lifted ≡ [] → counts (waiting a) ≡ counts a.stored
  waiting_is a e = ap (λ (l : List (DeviceBlock S R)). counts (l ++ a.stored)) e

  -- how many blocks are stored
  pub stored_slots : (shown : S → Shown) (arrays : List (External S R)) → length (external_slots shown arrays) ≡ blocks_in arrays
  stored_slots shown [] = refl
  stored_slots shown (a ∷ as') = omega (arith, ap length (flat_map-cons (λ (x : External S R). slots_shown shown x.stored) a as'), length-append (slots_shown shown a.stored) (external_slots shown as'), slots_long shown a.stored, stored_slots shown as', sum_by-cons (λ (x : External S R). length x.stored) a as')

  module _ (shown : S → Shown) (width block : ℕ) where
    -- runs in blocks have no more records than fit in what is loaded and stored
    pub arrays_fit : (arrays : List (External S R)) → All (IsRestingArray shown width block) arrays → sum_by size_of arrays ≤ external_buffers arrays * block + blocks_in arrays * block
    arrays_fit [] a = omega arith
    arrays_fit (x ∷ xs) a =
        let is = All-head (IsRestingArray shown width block) x xs a in
        let more = arrays_fit xs (All-tail (IsRestingArray shown width block) x xs a) in
        let loaded = run_fit block x.loaded is.loaded is.fitting in
        let stored = counts_fit block x.stored is.packed.last in
        let buffers : external_buffers (x ∷ xs) * block ≡ length (buffers_of x.loaded) * block + external_buffers xs * block = ap (λ n. n * block) (sum_by-cons (λ (y : External S R). length (buffers_of y.loaded)) x xs) ∙ add-mul (length (buffers_of x.loaded)) (external_buffers xs) block in
        let blocks : blocks_in (x ∷ xs) * block ≡ length x.stored * block + blocks_in xs * block = ap (λ n. n * block) (sum_by-cons (λ (y : External S R). length y.stored) x xs) ∙ add-mul (length x.stored) (blocks_in xs) block in
        omega (arith, more, loaded, stored, buffers, blocks, waiting_is x is.lifted, sum_by-cons (λ (y : External S R). size_of y) x xs)

    -- each stored block was written
    pub arrays_written : (arrays : List (External S R)) → All (IsRestingArray shown width block) arrays → blocks_in arrays ≤ sum_by (λ (s : Shown). s.writes) (external_slots shown arrays)
    arrays_written [] a = omega arith
    arrays_written (x ∷ xs) a =
        let is = All-head (IsRestingArray shown width block) x xs a in
        let more = arrays_written xs (All-tail (IsRestingArray shown width block) x xs a) in
        let here = one_each x.stored is.written in
        omega (arith, more, here, sum_by-cons (λ (y : External S R). length y.stored) x xs, ap (sum_by (λ (s : Shown). s.writes)) (flat_map-cons (λ (y : External S R). slots_shown shown y.stored) x xs), sum_by-append (λ (s : Shown). s.writes) (slots_shown shown x.stored) (external_slots shown xs))
      where
        one_each : (blocks : List (DeviceBlock S R)) → All (λ (b : DeviceBlock S R). 1 ≤ (shown b.slot).writes) blocks → length blocks ≤ sum_by (λ (s : Shown). s.writes) (slots_shown shown blocks)
        one_each [] a = omega arith
        one_each (b ∷ bs) a =
            let one : 1 ≤ (shown b.slot).writes = All-head (λ (b : DeviceBlock S R). 1 ≤ (shown b.slot).writes) b bs a in
            omega (arith, one, one_each bs (All-tail (λ (b : DeviceBlock S R). 1 ≤ (shown b.slot).writes) b bs a), sum_by-cons (λ (s : Shown). s.writes) (shown b.slot) (slots_shown shown bs))

  -- no more runs have something loaded than there are
  pub fronts_few : (arrays : List (External S R)) → fronts_in arrays ≤ length arrays
  fronts_few [] = omega arith
  fronts_few (x ∷ xs) = omega (arith, one_le (items_of x.loaded), fronts_few xs, sum_by-cons (λ (a : External S R). one_if_some (items_of a.loaded)) x xs)

  module _ (record_of : List ℕ → R) (width : ℕ) (shown : S → Shown) where
    told_length : (told : Option (List ℕ)) (count : ℕ) → IsSome told → length (records_told record_of width count told) ≡ count
    told_length None count h = absurd (cc)
    told_length (Some bytes) count h = length-records_from record_of width count bytes

    blocks_length : (blocks : List (DeviceBlock S R)) → All Tells (slots_shown shown blocks) → length (blocks_items record_of width shown blocks) ≡ counts blocks
    blocks_length [] all = refl
    blocks_length (b ∷ bs) all =
        omega (
          arith,
          ap length (flat_map-cons (block_items record_of width shown) b bs),
          length-append (block_items record_of width shown b) (blocks_items record_of width shown bs),
          told_length (shown b.slot).told b.count (All-head Tells (shown b.slot) (slots_shown shown bs) all),
          blocks_length bs (All-tail Tells (shown b.slot) (slots_shown shown bs) all),
          sum_by-cons (λ (x : DeviceBlock S R). x.count) b bs,
        )

    -- where slots tell, runs have as many records as they count
    pub arrays_length : (block : ℕ) (arrays : List (External S R)) → All (IsRestingArray shown width block) arrays → All Tells (external_slots shown arrays) → length (flat_map (records_in record_of width shown) arrays) ≡ sum_by size_of arrays
    arrays_length block [] all tell = refl
    arrays_length block (x ∷ xs) all tell =
        let is = All-head (IsRestingArray shown width block) x xs all in
        let told = subst (All Tells) (flat_map-cons (λ (y : External S R). slots_shown shown y.stored) x xs) tell in
        let stored = all_left Tells (slots_shown shown x.stored) (external_slots shown xs) told in
        let rest = all_right Tells (slots_shown shown x.stored) (external_slots shown xs) told in
        omega (
          arith,
          ap length (flat_map-cons (records_in record_of width shown) x xs),
          length-append (records_in record_of width shown x) (flat_map (records_in record_of width shown) xs),
          length-append (items_of x.loaded) (blocks_items record_of width shown (waiting x)),
          ap (λ (l : List (DeviceBlock S R)). length (blocks_items record_of width shown (l ++ x.stored))) is.lifted,
          blocks_length x.stored stored,
          waiting_is x is.lifted,
          arrays_length block xs (All-tail (IsRestingArray shown width block) x xs all) rest,
          sum_by-cons (λ (y : External S R). size_of y) x xs,
        )

module _ {S R : Type 0} (shown : S → Shown) (width block : ℕ) where
  -- each run has a record
  arrays_some : (arrays : List (External S R)) → All (IsRestingArray shown width block) arrays → length arrays ≤ sum_by size_of arrays
  arrays_some [] a = omega arith
  arrays_some (x ∷ xs) a = omega (arith, (All-head (IsRestingArray shown width block) x xs a).some, arrays_some xs (All-tail (IsRestingArray shown width block) x xs a), sum_by-cons (λ (y : External S R). size_of y) x xs)

  runs_count : (runs : List (Run R)) → All (IsRestingRun block) runs → length runs ≤ sum_by (λ run. length (items_of run)) runs
  runs_count [] a = omega arith
  runs_count (x ∷ xs) a = omega (arith, (All-head (IsRestingRun block) x xs a).some, runs_count xs (All-tail (IsRestingRun block) x xs a), sum_by-cons (λ (run : Run R). length (items_of run)) x xs)

  pub count_some : (internal : List (Run R)) (arrays : List (External S R)) → All (IsRestingRun block) internal → All (IsRestingArray shown width block) arrays → length internal + length arrays ≤ count_in internal arrays
  count_some internal arrays a b = omega (arith, runs_count internal a, arrays_some arrays b)

  pub none_count : (internal : List (Run R)) (arrays : List (External S R)) → length internal + length arrays ≡ 0 → count_in internal arrays ≡ 0
  none_count [] [] h = refl
  none_count [] (x ∷ xs) h = absurd (omega arith)
  none_count (x ∷ xs) arrays h = absurd (omega arith)
