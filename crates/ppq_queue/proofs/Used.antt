-- What the blocks of a queue are used for.
use Rattle.std.proofs.Common.{◌≡◌, ℕ, ◌+◌, ◌-◌, ◌*◌, ◌<◌, ◌≤◌, Bool, List, length, Option, refl, subst, arith}
use Rattle.std.specs.Prelude.{min}
use Rattle.std.proofs.lemmas.Nat.{le-div}
use Rattle.std.proofs.Math.Nat.{add-mul, mul_comm, mul-le-mul_right, mul-le-mul_left, lt_of_mul-lt-mul_right, div-mul-le_self}
use Rattle.std.specs.declared.cmp.Ordering.{Ordering}
use Rattle.ppq_extract.specs.ppq_budget.Sizes.{Numbers, AreInRange, heap_of, blocks_for, room_of}
use Rattle.ppq_extract.specs.ppq_outside.Shown.{Shown}
use Rattle.ppq_heap.specs.Heaps.{Shares, items_of}
use Rattle.ppq_spill.specs.ppq_counts.Tally.{Tally, IsBacked, bound_of}
use Rattle.ppq_queue.specs.Handed.{viewed}
use Rattle.ppq_queue.specs.Holding.{Holding, AreUsed, UsesBlocks, FoundNoBlock, in_use, in_runs}
use Rattle.ppq_queue.specs.Resting.{count_of}
use Rattle.ppq_queue.specs.State.{IsSound}
use Rattle.ppq_queue.specs.declared.store.Store.{Store}
use Rattle.ppq_queue.proofs.Bounds.{slots_used, are_used}

module _ {S R : Type 0} (shown : S → Shown) (cmp : R → R → Ordering) (record_of : List ℕ → R) (width : ℕ) where
  -- a queue no block of which failed says what its blocks are used for
  pub uses_blocks :
      (store : Store S R) (heaps : Shares R) (count peak : ℕ) (failed : Option ℕ) (limited : Bool) (counts : Tally)
      → IsSound shown cmp record_of width store.sizes heaps store.extract store.body store.supply store.sources count peak limited
      → UsesBlocks (viewed shown record_of width store heaps count peak failed limited counts)
  uses_blocks store heaps count peak failed limited counts sound =
      let q = viewed shown record_of width store heaps count peak failed limited counts in
      let slots = slots_used shown cmp record_of width store.sizes store.body store.supply sound.rest in
      let used = are_used shown cmp record_of width store.sizes store.body store.supply sound.rest (in_use q) (q.buffers - q.idle) (omega (arith, slots)) refl in
      let records : count_of store.body ≡ in_runs q = omega (arith, sound.counted) in
      record {
        apart = omega (arith, sound.counted);
        used = subst (λ n. AreUsed store.sizes (in_use q) (q.buffers - q.idle) q.runs n) records used;
      }

-- so many records fill so many blocks
fill : (n : Numbers) → AreInRange n → (load : ℕ) → load ≤ blocks_for n load * n.block
fill n range load = omega (arith, range.two_records, mul_comm (blocks_for n load) n.block)

-- no more blocks are used than so many records fill, and 65
few_used : (n : Numbers) (used busy runs records : ℕ) → AreInRange n → AreUsed n used busy runs records → used < blocks_for n records + 66
few_used n used busy runs records range is =
    let c = blocks_for n records in
    let most : min runs 65 * n.block ≤ 65 * n.block = mul-le-mul_right n.block (omega arith) in
    let sum = add-mul c 66 n.block in
    let less : used * n.block < (c + 66) * n.block = omega (arith, is.filled, most, fill n range records, sum, range.two_records) in
    lt_of_mul-lt-mul_right n.block less

-- fewer records fill no more blocks
fewer : (n : Numbers) → AreInRange n → (few more : ℕ) → few ≤ more → blocks_for n few ≤ blocks_for n more
fewer n range few more h = le-div (blocks_for n few) (more + (n.block - 1)) n.block (omega (arith, range.two_records)) (omega (arith, div-mul-le_self (few + (n.block - 1)) n.block, h))

-- a device that was found full has fewer blocks than are enough for the records that are there
pub right_refusal : {R : Type 0} (old new : Holding R) → AreInRange new.sizes → length new.slots ≡ new.sizes.blocks → UsesBlocks new → FoundNoBlock old new → new.sizes.blocks < room_of new.sizes new.size
right_refusal old new range all uses found =
    let n = new.sizes in
    let used = few_used n (in_use new) (new.buffers - new.idle) new.runs (in_runs new) range uses.used in
    let less = fewer n range (in_runs new) new.size (omega arith) in
    omega (arith, used, less, all, found.free, range.some_worker)

-- all blocks are free where there is no record
pub none_in_use : {R : Type 0} (q : Holding R) → AreInRange q.sizes → length q.slots ≡ q.sizes.blocks → q.free ≤ q.sizes.blocks → UsesBlocks q → q.size ≡ 0 → q.free ≡ q.sizes.blocks
none_in_use q range all some uses none =
    let n = q.sizes in
    let m = min q.runs 65 in
    let no_run : m ≤ 0 = omega (arith, uses.used.some, none) in
    let no_odd : m * n.block ≤ 0 * n.block = mul-le-mul_right n.block no_run in
    let nothing : in_use q * n.block < 1 * n.block = omega (arith, uses.used.filled, no_odd, none, range.two_records) in
    let zero_used : in_use q < 1 = lt_of_mul-lt-mul_right n.block nothing in
    omega (arith, zero_used, all, some)

-- what the bound of writes comes to for each accepted record
pub few_writes : (n : Numbers) (t : Tally) → IsBacked (heap_of n) 0 0 t → n.heap * bound_of n.workers n.block t ≤ (8 * n.heap + 8 * n.workers + 4) * t.accepted + heap_of n * ((10 * n.workers + 4) * t.sessions)
few_writes n t backed =
    let rests : n.workers * (heap_of n * t.stores) ≤ n.workers * t.accepted = mul-le-mul_left n.workers (omega (arith, backed.within)) in
    omega (arith, backed.within, rests)
