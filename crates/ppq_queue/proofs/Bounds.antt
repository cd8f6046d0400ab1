-- The bounds of a queue whose runs are at rest: buffers, records, blocks.
use Rattle.std.proofs.Common.{◌≡◌, ℕ, ◌+◌, ◌-◌, ◌*◌, ◌/◌, ◌<◌, ◌≤◌, List, [], ◌++◌, length, max, sum_by, sym, ap, arith, inl, inr, length-append}
use Rattle.std.specs.Prelude.{flat_map, vec_capacity, min, ◌⊎◌}
use Rattle.std.proofs.lemmas.Nat.{mul-le}
use Rattle.std.proofs.lemmas.List.Sums.{sum_by-append}
use Rattle.ppq_extract.proofs.ppq_array.Noted.{all_left}
use Rattle.std.proofs.Math.Nat.{add-mul, mul_comm, mul_assoc, mul-le-mul_right, div-mul-le_self, lt_of_mul-lt-mul_right}
use Rattle.std.specs.declared.cmp.Ordering.{Ordering}
use Rattle.ppq_extract.specs.ppq_outside.Shown.{Shown, Tells, AllTell}
use Rattle.ppq_extract.specs.ppq_budget.Sizes.{Numbers, AreInRange, fixed_of, heaps_of, batch_of, pool_of, blocks_for, room_of, lane_buffers}
use Rattle.ppq_extract.specs.ppq_array.Supply.{Stock}
use Rattle.ppq_extract.specs.ppq_array.External.{records_in}
use Rattle.ppq_extract.specs.ppq_array.Holdings.{internal_items, internal_buffers, external_buffers, external_slots}
use Rattle.ppq_extract.specs.ppq_fetch.Fetching.{blocks_in}
use Rattle.ppq_spill.specs.Body.{job_slots}
use Rattle.ppq_spill.specs.declared.body.PassBody.{PassBody}
use Rattle.ppq_queue.specs.Holding.{AreUsed}
use Rattle.ppq_queue.specs.Resting.{AtRest, runs_bag, count_of, slots_of, odd_in, IsShort}
use Rattle.ppq_queue.proofs.Amounts.{arrays_length, runs_some, runs_fit, internal_count, stored_slots, arrays_fit, arrays_written, count_some}
use Rattle.ppq_queue.proofs.Odd.{arrays_full, runs_most, odd_most}

-- the pool is within the budget
pub pool_within : (n : Numbers) → fixed_of n ≤ n.memory → fixed_of n + pool_of n * n.block ≤ n.memory
pool_within n h =
    let some : pool_of n ≤ (n.memory - fixed_of n) / n.block = omega arith in
    let product : pool_of n * n.block ≤ (n.memory - fixed_of n) / n.block * n.block = mul-le-mul_right n.block some in
    omega (arith, product, div-mul-le_self (n.memory - fixed_of n) n.block, h)

pub pool_small : (n : Numbers) → pool_of n ≤ 65536
pool_small n = omega arith

-- what the blocks of a device hold
pub blocks_hold : (n : Numbers) → AreInRange n → n.block * n.blocks ≤ 4294967296
blocks_hold n range = (let most : n.block * n.blocks ≤ 65536 * 65536 = mul-le n.block n.blocks 65536 65536 range.block range.blocks in omega (arith, most))

-- heaps, extract buffer and lanes are in the fixed part
pub parts_within : (n : Numbers) → AreInRange n → heaps_of n + batch_of n + 2 * batch_of n + lane_buffers n * n.block + n.blocks ≤ fixed_of n
parts_within n range =
    let heap : n.workers * n.heap * n.block ≡ n.workers * (n.heap * n.block) = mul_assoc n.workers n.heap n.block in
    let lanes : lane_buffers n * n.block ≡ 72 * n.block + 3 * n.workers * n.block = add-mul 72 (3 * n.workers) n.block in
    let three : 3 * n.workers * n.block ≡ 3 * (n.workers * n.block) = mul_assoc 3 n.workers n.block in
    let all : n.block * (n.workers * n.heap + 6 * n.workers + 72) ≡ (n.workers * n.heap + 6 * n.workers + 72) * n.block = mul_comm n.block (n.workers * n.heap + 6 * n.workers + 72) in
    let sum : (n.workers * n.heap + 6 * n.workers + 72) * n.block ≡ (n.workers * n.heap + 6 * n.workers) * n.block + 72 * n.block = add-mul (n.workers * n.heap + 6 * n.workers) 72 n.block in
    let sum' : (n.workers * n.heap + 6 * n.workers) * n.block ≡ n.workers * n.heap * n.block + 6 * n.workers * n.block = add-mul (n.workers * n.heap) (6 * n.workers) n.block in
    let six : 6 * n.workers * n.block ≡ 6 * (n.workers * n.block) = mul_assoc 6 n.workers n.block in
    omega (arith, heap, lanes, three, all, sum, sum', six)

-- a heap, and all heaps, are within the budget
pub heaps_within : (n : Numbers) → AreInRange n → fixed_of n ≤ n.memory → heaps_of n ≤ n.memory
heaps_within n range budget = omega (arith, parts_within n range, budget)

-- a round of merging gives some records
pub batch_some : (n : Numbers) → AreInRange n → 0 < batch_of n
batch_some n range =
    let one : 1 * n.block ≤ n.workers * n.block = mul-le-mul_right n.block range.some_worker in
    omega (arith, one, range.two_records)

module _ {S R : Type 0} (shown : S → Shown) (cmp : R → R → Ordering) (record_of : List ℕ → R) (width : ℕ) (n : Numbers) (body : PassBody S R) (stock : Stock) where
  abbrev Rests : Type 0
  Rests = AtRest shown cmp record_of width n body stock

  pub room_few : Rests → stock.buffer_room ≤ pool_of n
  room_few rest = omega (arith, rest.pool)

  pub internal_few : Rests → internal_buffers body.runs.internal.items ≤ pool_of n
  internal_few rest = omega (arith, rest.takes_back.buffers, room_few rest)

  pub runs_few : Rests → length body.runs.internal.items ≤ pool_of n
  runs_few rest = omega (arith, internal_few rest, runs_some stock.block body.runs.internal.items rest.internal)

  pub idle_most : Rests → length body.lanes.idle + external_buffers body.runs.external.items ≤ lane_buffers n + pool_of n
  idle_most rest = omega (arith, rest.held, room_few rest)

  pub idle_some : Rests → 2 * n.workers + 8 ≤ length body.lanes.idle
  idle_some rest = omega (arith, rest.buffers, rest.bounded, rest.fronts)

  -- a buffer of the pool that is out is in a run
  pub pool_idle : Rests → body.runs.internal.items ≡ [] → stock.sure_buffers ≡ pool_of n
  pool_idle rest none = omega (arith, rest.held, rest.buffers, rest.pool, ap internal_buffers none)

  -- all of the pool is idle where no run is in buffers
  pub half_idle : Rests → (body.runs.internal.items ≡ []) ⊎ (pool_of n ≤ 2 * stock.sure_buffers) → pool_of n ≤ 2 * stock.sure_buffers
  half_idle rest (inl none) = omega (arith, pool_idle rest none)
  half_idle rest (inr enough) = enough

  -- the records in buffers are within the pool
  pub in_buffers_few : Rests → length (internal_items body.runs.internal.items) ≤ pool_of n * n.block
  in_buffers_few rest =
      let fit = runs_fit stock.block body.runs.internal.items rest.internal in
      let size : internal_buffers body.runs.internal.items * stock.block ≡ internal_buffers body.runs.internal.items * n.block = ap (λ b. internal_buffers body.runs.internal.items * b) rest.block in
      let most : internal_buffers body.runs.internal.items * n.block ≤ pool_of n * n.block = mul-le-mul_right n.block (internal_few rest) in
      omega (arith, fit, size, most)

  pub blocks_few : Rests → blocks_in body.runs.external.items ≤ n.blocks
  blocks_few rest = omega (arith, sym (stored_slots shown body.runs.external.items), rest.takes_back.slots, rest.slots)

  -- the list of runs in blocks has room for one more
  pub arrays_few : Rests → length body.runs.external.items < vec_capacity body.runs.external
  arrays_few rest = omega (arith, runs_most stock.block shown width body.runs.external.items rest.external, rest.few, blocks_few rest, rest.external_room)

  -- all records of runs fit in the buffers and the stored blocks
  pub count_fits : Rests → count_of body ≤ (lane_buffers n + pool_of n) * n.block + blocks_in body.runs.external.items * n.block
  count_fits rest =
      let i = internal_buffers body.runs.internal.items in
      let e = external_buffers body.runs.external.items in
      let k = blocks_in body.runs.external.items in
      let int = runs_fit stock.block body.runs.internal.items rest.internal in
      let ext = arrays_fit shown width stock.block body.runs.external.items rest.external in
      let a : i * stock.block ≡ i * n.block = ap (λ b. i * b) rest.block in
      let b : e * stock.block ≡ e * n.block = ap (λ b. e * b) rest.block in
      let d : k * stock.block ≡ k * n.block = ap (λ b. k * b) rest.block in
      let few : i + e ≤ lane_buffers n + pool_of n = omega (arith, rest.held, room_few rest) in
      let most : (i + e) * n.block ≤ (lane_buffers n + pool_of n) * n.block = mul-le-mul_right n.block few in
      let sum : (i + e) * n.block ≡ i * n.block + e * n.block = add-mul i e n.block in
      omega (arith, int, ext, a, b, d, most, sum, internal_count body.runs.internal.items)

  -- all records of a queue are within the budget, or in stored blocks
  pub records_within : Rests → AreInRange n → fixed_of n ≤ n.memory → (heap extract : ℕ) → heap ≤ heaps_of n → extract ≤ batch_of n → heap + extract + count_of body ≤ n.memory + blocks_in body.runs.external.items * n.block
  records_within rest range budget heap extract h e =
      let sum : (lane_buffers n + pool_of n) * n.block ≡ lane_buffers n * n.block + pool_of n * n.block = add-mul (lane_buffers n) (pool_of n) n.block in
      omega (arith, count_fits rest, parts_within n range, pool_within n budget, sum, h, e)

  -- the same for a device that is full
  pub records_most : Rests → AreInRange n → fixed_of n ≤ n.memory → (heap extract : ℕ) → heap ≤ heaps_of n → extract ≤ batch_of n → heap + extract + count_of body ≤ n.memory + n.block * n.blocks
  records_most rest range budget heap extract h e =
      let most : blocks_in body.runs.external.items * n.block ≤ n.blocks * n.block = mul-le-mul_right n.block (blocks_few rest) in
      omega (arith, records_within rest range budget heap extract h e, most, mul_comm n.blocks n.block)

  -- each stored block was written
  pub written : Rests → blocks_in body.runs.external.items ≤ sum_by (λ (s : Shown). s.writes) (slots_of shown body stock)
  written rest =
      let f : Shown → ℕ = λ s. s.writes in
      omega (
        arith,
        arrays_written shown width stock.block body.runs.external.items rest.external,
        sum_by-append f (external_slots shown body.runs.external.items ++ job_slots shown body.lanes.jobs.items) stock.kept,
        sum_by-append f (external_slots shown body.runs.external.items) (job_slots shown body.lanes.jobs.items),
      )

  -- where slots tell, the runs have as many records as they count
  pub bag_length : Rests → AllTell (slots_of shown body stock) → length (runs_bag shown record_of width body) ≡ count_of body
  bag_length rest tell =
      let ext = external_slots shown body.runs.external.items in
      let jobs = job_slots shown body.lanes.jobs.items in
      let told = all_left Tells ext jobs (all_left Tells (ext ++ jobs) stock.kept tell) in
      omega (
        arith,
        length-append (internal_items body.runs.internal.items) (flat_map (records_in record_of width shown) body.runs.external.items),
        internal_count body.runs.internal.items,
        arrays_length record_of width shown stock.block body.runs.external.items rest.external told,
      )

  -- a slot is free, or a run has it
  pub slots_used : Rests → length (slots_of shown body stock) ≡ blocks_in body.runs.external.items + length stock.kept
  slots_used rest =
      omega (
        arith,
        length-append (external_slots shown body.runs.external.items ++ job_slots shown body.lanes.jobs.items) stock.kept,
        length-append (external_slots shown body.runs.external.items) (job_slots shown body.lanes.jobs.items),
        ap (λ l. length (job_slots shown l)) rest.no_job,
        stored_slots shown body.runs.external.items,
      )

  -- what the stored blocks, and the buffers that are not idle, are used for
  pub are_used : Rests → (used busy : ℕ) → used ≡ blocks_in body.runs.external.items → busy ≡ lane_buffers n + pool_of n - stock.sure_buffers → AreUsed n used busy (length body.runs.external.items) (count_of body)
  are_used rest used busy stored out =
      let i = internal_buffers body.runs.internal.items in
      let e = external_buffers body.runs.external.items in
      let k = blocks_in body.runs.external.items in
      let w = odd_in stock.block body.runs.external.items in
      let m = min (length body.runs.external.items) 65 in
      let full = arrays_full stock.block shown width body.runs.external.items rest.external in
      let int = runs_fit stock.block body.runs.internal.items rest.internal in
      let ext = arrays_fit shown width stock.block body.runs.external.items rest.external in
      let at_i : i * stock.block ≡ i * n.block = ap (λ b. i * b) rest.block in
      let at_e : e * stock.block ≡ e * n.block = ap (λ b. e * b) rest.block in
      let at_k : k * stock.block ≡ k * n.block = ap (λ b. k * b) rest.block in
      let at_w : w * stock.block ≡ w * n.block = ap (λ b. w * b) rest.block in
      let few : w ≤ m = omega (arith, rest.few, odd_most stock.block body.runs.external.items) in
      let odd : w * n.block ≤ m * n.block = mul-le-mul_right n.block few in
      let used_is : used * n.block ≡ k * n.block = ap (λ x. x * n.block) stored in
      let busy_most : i + e ≤ busy = omega (arith, rest.held, rest.buffers, rest.pool, out) in
      let room : (i + e) * n.block ≤ busy * n.block = mul-le-mul_right n.block busy_most in
      record {
        some = omega (arith, count_some shown width stock.block body.runs.internal.items body.runs.external.items rest.internal rest.external);
        filled = omega (arith, full, at_k, at_w, odd, used_is);
        enough = omega (arith, int, ext, at_i, at_e, at_k, room, used_is, add-mul i e n.block, add-mul used busy n.block, internal_count body.runs.internal.items);
      }

  -- a full device that a merge or a store found too small has less room than the peak needs
  pub room_short : Rests → AreInRange n → length (slots_of shown body stock) ≡ n.blocks → (records peak : ℕ) → count_of body ≤ records → records ≤ peak → IsShort n (length stock.kept) records → n.blocks < room_of n peak
  room_short rest range all records peak some most short =
      let k = blocks_in body.runs.external.items in
      let w = odd_in stock.block body.runs.external.items in
      let full = arrays_full stock.block shown width body.runs.external.items rest.external in
      let a : k * stock.block ≡ k * n.block = ap (λ b. k * b) rest.block in
      let b : w * stock.block ≡ w * n.block = ap (λ b. w * b) rest.block in
      let sixty : w * n.block ≤ 65 * n.block = mul-le-mul_right n.block rest.few in
      let c = blocks_for n peak in
      let fill : peak ≤ c * n.block = enough peak in
      let slots : n.blocks ≡ k + length stock.kept = omega (arith, sym all, slots_used rest) in
      let sum : (c + 65) * n.block ≡ c * n.block + 65 * n.block = add-mul c 65 n.block in
      let blocks : k * n.block < (c + 66) * n.block =
      omega (arith, full, a, b, sixty, fill, some, most, sum, add-mul c 66 n.block, range.two_records, internal_count body.runs.internal.items)
      in
      let few : k < c + 66 = lt_of_mul-lt-mul_right n.block blocks in
      by_short short few slots fill
    where
      enough : (load : ℕ) → load ≤ blocks_for n load * n.block
      enough load = omega (arith, range.two_records, mul_comm (blocks_for n load) n.block)

      by_short : IsShort n (length stock.kept) records → blocks_in body.runs.external.items < blocks_for n peak + 66 → n.blocks ≡ blocks_in body.runs.external.items + length stock.kept → peak ≤ blocks_for n peak * n.block → n.blocks < room_of n peak
      by_short (inl free) few slots fill = omega (arith, range.some_worker)
      by_short (inr free) few slots fill =
          let less : length stock.kept * n.block < blocks_for n peak * n.block = omega (arith, free, most, fill) in
          let fewer : length stock.kept < blocks_for n peak = lt_of_mul-lt-mul_right n.block less in
          omega (arith, range.some_worker)

  -- and few slots are free
  pub free_short : AreInRange n → (records free : ℕ) → IsShort n free records → free < max (8 + n.workers) (blocks_for n records)
  free_short range records free (inl few) = omega arith
  free_short range records free (inr few) =
      let enough : records ≤ blocks_for n records * n.block = omega (arith, range.two_records, mul_comm (blocks_for n records) n.block) in
      let fewer : free < blocks_for n records = lt_of_mul-lt-mul_right n.block (omega (arith, few, enough)) in
      omega (arith, fewer)

-- what is resident is within the budget
pub resident_within : (n : Numbers) → AreInRange n → fixed_of n ≤ n.memory → (heap extract used : ℕ) → heap ≤ heaps_of n → extract ≤ batch_of n → used ≤ n.blocks → heap + extract + used + 2 * batch_of n + (lane_buffers n + pool_of n) * n.block ≤ n.memory
resident_within n range budget heap extract used h e u =
    omega (arith, parts_within n range, pool_within n budget, add-mul (lane_buffers n) (pool_of n) n.block, h, e, u)
