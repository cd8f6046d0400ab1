-- A store of a pass: that it may be made, and what always holds after it.
use Rattle.std.proofs.Common.{◌≡◌, ℕ, ◌+◌, ◌-◌, ◌*◌, ◌/◌, ◌<◌, ◌≤◌, ◌^◌, Bool, true, List, length, Option, Some, sym, ap, ◌∙◌, subst, arith}
use Rattle.std.specs.declared.cmp.Ordering.{Ordering}
use Rattle.std.proofs.Math.Nat.{mul-le-mul_right, div-mul-le_self, le-div_iff_mul-le}
use Rattle.ppq_pool.specs.ppq_record.Order.{Ascends}
use Rattle.ppq_extract.specs.ppq_outside.Shown.{Shown}
use Rattle.ppq_extract.specs.ppq_budget.Sizes.{Numbers, AreInRange, heap_of, fixed_of, pool_of}
use Rattle.ppq_heap.specs.Heap.{Contents}
use Rattle.ppq_extract.specs.ppq_array.Kept.{HasFailed}
use Rattle.ppq_extract.specs.ppq_array.Holdings.{internal_buffers, external_slots}
use Rattle.ppq_extract.specs.ppq_fetch.Fetching.{count_in}
use Rattle.ppq_spill.specs.Storing.{MayStore, RunsAscend, in_buffers}
use Rattle.ppq_spill.specs.declared.body.PassBody.{PassBody}
use Rattle.ppq_pool.specs.Seats.{count_of}
use Rattle.ppq_pass.specs.declared.shared.Shared.{Shared}
use Rattle.ppq_pass.specs.declared.parts.PassParts.{PassParts}
use Rattle.ppq_pass.specs.Passing.{IsPass}
use Rattle.ppq_pass.specs.Passed.{slots_of}
use Rattle.ppq_pass.specs.PassState.{IsPassed, IsSoundPass, stock_of}
use Rattle.ppq_pass.specs.PassStore.{StoreKept}
use Rattle.ppq_pass.proofs.Passes.{few_numbers}
use Rattle.ppq_pass.proofs.PassOpened.{of_shared}
use Rattle.ppq_pass.proofs.PassRuns.{runs_buffers, records_fit, arrays_blocks, arrays_size, runs_count}
use Rattle.ppq_pass.proofs.PassSlots.{same_slots, same_untold, more_writes}

-- the buffers of the budget hold no more than the budget
pool_within : (n : Numbers) → pool_of n * n.block ≤ n.memory
pool_within n =
    let some : pool_of n ≤ (n.memory - fixed_of n) / n.block = omega arith in
    let product : pool_of n * n.block ≤ (n.memory - fixed_of n) / n.block * n.block = mul-le-mul_right n.block some in
    omega (arith, product, div-mul-le_self (n.memory - fixed_of n) n.block)

-- a heap is small
pub heap_small : (n : Numbers) → AreInRange n → (0 < heap_of n) × (heap_of n ≤ 4194304)
heap_small n range =
    let least : 1 * n.block ≤ n.heap * n.block = mul-le-mul_right n.block range.some_heap in
    let most : n.heap * n.block ≤ 64 * n.block = mul-le-mul_right n.block range.heap in (
      omega (arith, least, range.two_records),
      omega (arith, most, range.block),
    )

module _ {S R : Type 0} {shown : S → Shown} {width : ℕ} {n : Numbers} {heap : Contents R} {a : PassBody S R} {p : PassParts S R} {refused : Bool} {failed : Option ℕ} (is : IsPassed shown width n heap a p refused failed) where
  buffers_few : internal_buffers a.runs.internal.items ≤ pool_of n
  buffers_few = omega (arith, is.takes_back.buffers, few_numbers p.numbers.items (count_of p.pool_seat.pool) is.supply.below is.supply.each_once, is.few_buffers)

  places_few : length (external_slots shown a.runs.external.items) ≤ n.blocks
  places_few = omega (arith, is.takes_back.slots, is.supply.once (length p.row_seat.hand.items) is.supply.drawn, is.few_slots)

  module _ {cmp : R → R → Ordering} {record_of : List ℕ → R} {begun accepted : ℕ} (sound : IsSoundPass shown cmp record_of width n heap a p begun accepted refused) where
    block_some : 0 < n.block
    block_some = omega (arith, is.range.two_records)

    runs_few : length a.runs.internal.items ≤ pool_of n / n.heap
    runs_few = (le-div_iff_mul-le (omega (arith, is.range.some_heap))).1 (omega (arith, runs_buffers n.block n.heap a.runs.internal.items block_some sound.internal, buffers_few))

    arrays_few : length a.runs.external.items ≤ n.blocks / n.heap
    arrays_few = (le-div_iff_mul-le (omega (arith, is.range.some_heap))).1 (omega (arith, arrays_blocks shown width n.block n.heap a.runs.external.items block_some sound.external, places_few))

    in_buffers_few : in_buffers a ≤ n.memory
    in_buffers_few =
        let most : internal_buffers a.runs.internal.items * n.block ≤ pool_of n * n.block = mul-le-mul_right n.block buffers_few in
        omega (arith, records_fit n.block n.heap a.runs.internal.items block_some sound.internal, most, pool_within n)

    -- a pass can store a full heap
    pub may_store : (records : ℕ) → records ≡ heap_of n → MayStore shown width records a (stock_of shown p)
    may_store records full =
        record {
          size = is.size;
          buffer = omega (arith, is.two);
          few_idle = omega (arith, is.two);
          no_job = is.no_job;
          takes_back = is.takes_back;
          internal_room = omega (arith, runs_few, is.internal_room);
          external_room = omega (arith, arrays_few, is.external_room);
          leaves = omega (arith, runs_few, is.leaves);
          few = omega (arith, full, (heap_small n is.range).1, in_buffers_few, is.range.memory);
        }

    -- its runs in buffers ascend
    pub runs_ascend : (sorted : List R) → Ascends cmp sorted → RunsAscend cmp shown sorted a (stock_of shown p)
    runs_ascend sorted up = record { run = λ _. up; internal = λ _. sound.ascend }

    -- the records of a pass are few
    pub size_few : length heap.items + count_in a.runs.internal.items a.runs.external.items < 2 ^ 63
    size_few =
        let blocks : length (external_slots shown a.runs.external.items) * n.block ≤ n.blocks * n.block = mul-le-mul_right n.block places_few in
        let small : n.blocks * n.block ≤ 65536 * n.block = mul-le-mul_right n.block is.range.blocks in
        omega (
          arith,
          runs_count a.runs.internal.items,
          in_buffers_few,
          arrays_size shown width n.block (heap_of n) a.runs.external.items sound.external,
          blocks,
          small,
          is.in_heap,
          (heap_small n is.range).1,
          is.range.memory,
          is.range.block,
        )

  module _ {shared : Shared S R} {b : PassBody S R} {q : PassParts S R} {records : ℕ} (row : p.row_seat.row ≡ shared.row) (pool : p.pool_seat.pool ≡ shared.pool) (kept : StoreKept shown width records shared a b p q) where
    -- what always holds, holds after a store
    pub passed_stored :
        (heap' : Contents R) (refused' : Bool) (failed' : Option ℕ) → heap'.cap ≡ heap.cap → length heap'.items ≤ heap_of n → (refused' ≡ true → 0 < q.dry)
        → ((number : ℕ) → failed' ≡ Some number → HasFailed number (slots_of shown b q) × (length heap'.items ≡ heap_of n))
        → IsPassed shown width n heap' b q refused' failed'
    passed_stored heap' refused' failed' cap most ended fault =
        record {
          range = is.range;
          supply = subst (λ (h : Shared S R). IsPass shown width h q.row_seat q.pool_seat q.stash q.numbers q.block q.dry q.scant) (sym (of_shared q shared kept.supply.row kept.supply.pool)) kept.supply;
          block = kept.kept.block ∙ is.block;
          cap = cap ∙ is.cap;
          in_heap = most;
          few_buffers = omega (arith, ap count_of (kept.supply.pool ∙ sym pool), is.few_buffers);
          few_slots = omega (arith, ap length kept.items, is.few_slots);
          slots = same_slots kept is.slots;
          untold = same_untold kept is.untold;
          writes = more_writes kept is.writes;
          buffers = omega (arith, kept.kept.buffers, is.buffers);
          size = kept.size;
          takes_back = kept.takes_back;
          no_job = kept.lanes.no_job;
          two = kept.lanes.idle ∙ is.two;
          internal_room = omega (arith, is.internal_room, kept.rooms.internal);
          external_room = omega (arith, is.external_room, kept.rooms.external);
          leaves = omega (arith, is.leaves, kept.rooms.tree);
          ended = ended;
          fault = fault;
        }
