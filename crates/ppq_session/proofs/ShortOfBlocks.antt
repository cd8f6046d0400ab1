-- All records of a session, with those that were popped, are no more than there is room for; and a refused push says that all blocks of the
-- device were drawn, so that they are fewer than are enough for the peak.
use Rattle.std.proofs.Common.{◌-◌, sum_by, Option, ◌≡◌, ℕ, ◌+◌, ◌*◌, ◌<◌, ◌≤◌, true, List, [], ◌∷◌, ◌++◌, length, All, None, refl, ap, ◌∙◌, subst, arith, length-append}
use Rattle.std.specs.declared.cmp.Ordering.{Ordering}
use Rattle.std.proofs.lemmas.Nat.{mul-le}
use Rattle.std.proofs.Math.Nat.{add-mul, mul_comm, lt_of_mul-lt-mul_right, zero-mul, mul-le-mul_right, suc-mul}
use Rattle.std.proofs.lemmas.List.Sums.{sum_by-cons}
use Rattle.std.proofs.lemmas.List.Elements.{All-nil, All-head, All-tail, All-cons, All-map}
use Rattle.std.proofs.lemmas.List.Concat.{flat_map-cons}
use Rattle.ppq_pass.specs.ppq_outside.Shown.{Shown}
use Rattle.ppq_pass.specs.ppq_budget.Sizes.{Numbers, AreInRange, heap_of, blocks_for, room_of, heaps_of, pool_of, lane_buffers}
use Rattle.ppq_pass.specs.ppq_array.External.{External}
use Rattle.ppq_pass.specs.ppq_array.Owner.{slots_shown}
use Rattle.ppq_pass.specs.ppq_array.Holdings.{external_slots, internal_buffers, external_buffers}
use Rattle.ppq_pass.specs.ppq_fetch.Fetching.{blocks_in}
use Rattle.ppq_pass.specs.ppq_spill.Body.{body_slots, job_slots}
use Rattle.ppq_pass.proofs.ppq_spill.Keeping.{slots_long}
use Rattle.ppq_pass.specs.Passed.{PassHolding, slots_of as pass_slots}
use Rattle.ppq_pass.specs.PassState.{IsPassArray}
use Rattle.ppq_queue.specs.Resting.{odd_of, odd_in, slots_of}
use Rattle.ppq_queue.proofs.Amounts.{stored_slots, internal_count, runs_fit, arrays_fit}
use Rattle.ppq_queue.proofs.Odd.{arrays_full}
use Rattle.ppq_session.specs.Apart.{IsApart, IsSoundApart, apart_slots, in_runs}
use Rattle.ppq_session.specs.declared.parts.BulkParts.{BulkParts}
use Rattle.ppq_session.specs.Passes.{IsBrought, pass_of}
use Rattle.ppq_session.specs.Gathering.{slots_in, begun_in, accepted_in}
use Rattle.ppq_session.specs.declared.brought.Brought.{Brought}
use Rattle.ppq_session.specs.declared.closed.Closed.{Closed}
use Rattle.ppq_session.proofs.Brings.{numbers_in}
use Rattle.ppq_session.proofs.Gathered.{resting-array, even-array, resting-run}
use Rattle.ppq_session.proofs.Mapped.{sum-mapped}
use Rattle.ppq_session.specs.Bringing.{BroughtAll}
use Rattle.ppq_session.specs.Closing.{IsClosed}
use Rattle.ppq_pass.specs.ppq_pool.Seats.{count_of as pool_count}
use Rattle.ppq_queue.proofs.Bounds.{parts_within, pool_within}

pub heap_some : (n : Numbers) → AreInRange n → 0 < heap_of n
heap_some n range = let least : 1 * 1 ≤ n.heap * n.block = mul-le 1 1 n.heap n.block range.some_heap (omega (arith, range.two_records)) in omega (arith, least)

module _ {S R : Type 0} (shown : S → Shown) (cmp : R → R → Ordering) (record_of : List ℕ → R) (width : ℕ) (n : Numbers) (range : AreInRange n) where
  -- a run of a pass just fills its blocks
  none_odd : (arrays : List (External S R)) → All (IsPassArray shown width n.block (heap_of n)) arrays → odd_in n.block arrays ≡ 0
  none_odd [] all = refl
  none_odd (x ∷ xs) all =
      let P = IsPassArray {S = S} {R = R} shown width n.block (heap_of n) in
      omega (arith, even-array shown width n.block (heap_of n) x (All-head P x xs all), none_odd xs (All-tail P x xs all), sum_by-cons (odd_of {S = S} {R = R} n.block) x xs)

  -- the slots of a pass have room for no more than its records
  pass_full : (x : Brought S R) → IsBrought shown record_of width n cmp x → x.failed ≡ None → length (pass_slots shown x.body x.kept.value) * n.block ≤ x.begun + x.accepted
  pass_full x is whole =
      let p = is.sound whole in
      let arrays = x.body.runs.external.items in
      let ext = external_slots shown arrays in
      let stash = slots_shown shown x.kept.value.stash in
      let full = arrays_full n.block shown width arrays (λ k d h. resting-array shown width n.block (heap_of n) _ (p.external k d h) (heap_some n range)) in
      let even : odd_in n.block arrays * n.block ≡ 0 = ap (λ k. k * n.block) (none_odd arrays p.external) ∙ zero-mul n.block in
      let long : length (pass_slots shown x.body x.kept.value) ≡ blocks_in arrays + length x.kept.value.stash =
      omega (
        arith,
        length-append (body_slots shown x.body) stash,
        length-append ext (job_slots shown x.body.lanes.jobs.items),
        ap (λ l. length (job_slots shown l)) is.always.no_job,
        stored_slots shown arrays,
        slots_long shown x.kept.value.stash,
      )
      in
      let product : length (pass_slots shown x.body x.kept.value) * n.block ≡ blocks_in arrays * n.block + length x.kept.value.stash * n.block = ap (λ k. k * n.block) long ∙ add-mul (blocks_in arrays) (length x.kept.value.stash) n.block in
      omega (arith, product, full, even, p.stash, p.counted, internal_count x.body.runs.internal.items)

  -- so have those of several
  passes_full : (xs : List (Brought S R)) → All (IsBrought shown record_of width n cmp) xs → All (λ (x : Brought S R). x.failed ≡ None) xs → length (slots_in shown xs) * n.block ≤ begun_in shown xs + accepted_in shown xs
  passes_full [] each whole = omega (arith, zero-mul n.block)
  passes_full (x ∷ xs) each whole =
      let mine = pass_slots shown x.body x.kept.value in
      let one = pass_full x (All-head (IsBrought shown record_of width n cmp) x xs each) (All-head (λ (y : Brought S R). y.failed ≡ None) x xs whole) in
      let more = passes_full xs (All-tail (IsBrought shown record_of width n cmp) x xs each) (All-tail (λ (y : Brought S R). y.failed ≡ None) x xs whole) in
      let parts = flat_map-cons (λ (y : Brought S R). pass_slots shown y.body y.kept.value) x xs in
      let long : length (slots_in shown (x ∷ xs)) ≡ length mine + length (slots_in shown xs) = ap length parts ∙ length-append mine (slots_in shown xs) in
      let product : length (slots_in shown (x ∷ xs)) * n.block ≡ length mine * n.block + length (slots_in shown xs) * n.block = ap (λ k. k * n.block) long ∙ add-mul (length mine) (length (slots_in shown xs)) n.block in
      omega (arith, one, more, product, sum_by-cons (λ (y : Brought S R). y.begun) x xs, sum_by-cons (λ (y : Brought S R). y.accepted) x xs)

  -- a pass of which a push was refused has as many records as a heap holds, and so have all together
  heap_full :
      (most : ℕ) (xs : List (Brought S R))
      → All (IsBrought shown record_of width n cmp) xs → All (λ (x : Brought S R). x.failed ≡ None) xs → begun_in shown xs + accepted_in shown xs ≤ most → All (λ (x : Brought S R). x.refused ≡ true → heap_of n ≤ most) xs
  heap_full most [] each whole few = All-nil (λ (x : Brought S R). x.refused ≡ true → heap_of n ≤ most)
  heap_full most (x ∷ xs) each whole few =
      let p = (All-head (IsBrought shown record_of width n cmp) x xs each).sound (All-head (λ (y : Brought S R). y.failed ≡ None) x xs whole) in
      let begun = sum_by-cons (λ (y : Brought S R). y.begun) x xs in
      let accepted = sum_by-cons (λ (y : Brought S R). y.accepted) x xs in
      All-cons (λ (y : Brought S R). y.refused ≡ true → heap_of n ≤ most) x xs (λ refused. omega (arith, p.whole refused, p.counted, few, begun, accepted))
      (heap_full most xs (All-tail (IsBrought shown record_of width n cmp) x xs each) (All-tail (λ (y : Brought S R). y.failed ≡ None) x xs whole) (omega (arith, few, begun, accepted)))

-- blocks that have room for no more than a load and 65 blocks more are fewer than are enough for the load
few_blocks : (n : Numbers) → AreInRange n → (load : ℕ) → n.blocks * n.block ≤ load + 65 * n.block → n.blocks < room_of n load
few_blocks n range load h =
    let c = blocks_for n load in
    let enough : load ≤ c * n.block = omega (arith, range.two_records, mul_comm c n.block) in
    let most : n.blocks * n.block < (c + 66) * n.block = omega (arith, h, enough, add-mul c 66 n.block, range.two_records) in
    let few : n.blocks < c + 66 = lt_of_mul-lt-mul_right n.block most in
    omega (arith, few)

module _ {S R : Type 0} (shown : S → Shown) (cmp : R → R → Ordering) (record_of : List ℕ → R) (width : ℕ) (n : Numbers) (range : AreInRange n) where
  -- a pass has no more than its heap holds, its buffers and its slots
  pass_fits : (x : Brought S R) → IsBrought shown record_of width n cmp x → x.failed ≡ None → x.begun + x.accepted ≤ heap_of n + (length x.kept.value.pool_seat.hand.numbers + length (pass_slots shown x.body x.kept.value)) * n.block
  pass_fits x is whole =
      let p = is.sound whole in
      let a = is.always in
      let runs = x.body.runs.internal.items in
      let arrays = x.body.runs.external.items in
      let i = internal_buffers runs in
      let e = external_buffers arrays in
      let k = blocks_in arrays in
      let numbers = length x.kept.value.pool_seat.hand.numbers in
      let slots = length (pass_slots shown x.body x.kept.value) in
      let some = heap_some n range in
      let int = runs_fit n.block runs (λ j d h. resting-run n.block (heap_of n) _ some (p.internal j d h)) in
      let ext = arrays_fit shown width n.block arrays (λ j d h. resting-array shown width n.block (heap_of n) _ (p.external j d h) some) in
      let few : i + e + k ≤ numbers + slots =
      omega (
        arith,
        a.buffers,
        ap length a.supply.numbers_are,
        a.two,
        ap length a.no_job,
        length-append (body_slots shown x.body) (slots_shown shown x.kept.value.stash),
        length-append (external_slots shown arrays) (job_slots shown x.body.lanes.jobs.items),
        stored_slots shown arrays,
      )
      in
      let most : (i + e + k) * n.block ≤ (numbers + slots) * n.block = mul-le-mul_right n.block few in
      let sum : (i + e + k) * n.block ≡ i * n.block + e * n.block + k * n.block = add-mul (i + e) k n.block ∙ ap (λ m. m + k * n.block) (add-mul i e n.block) in
      omega (arith, p.counted, a.in_heap, int, ext, most, sum, internal_count runs)

  passes_fit :
      (xs : List (Brought S R)) → All (IsBrought shown record_of width n cmp) xs → All (λ (x : Brought S R). x.failed ≡ None) xs
      → begun_in shown xs + accepted_in shown xs ≤ length xs * heap_of n + (length (numbers_in xs) + length (slots_in shown xs)) * n.block
  passes_fit [] each whole = omega (arith, zero-mul n.block)
  passes_fit (x ∷ xs) each whole =
      let own = x.kept.value.pool_seat.hand.numbers in
      let mine = pass_slots shown x.body x.kept.value in
      let one = pass_fits x (All-head (IsBrought shown record_of width n cmp) x xs each) (All-head (λ (y : Brought S R). y.failed ≡ None) x xs whole) in
      let more = passes_fit xs (All-tail (IsBrought shown record_of width n cmp) x xs each) (All-tail (λ (y : Brought S R). y.failed ≡ None) x xs whole) in
      let numbers : length (numbers_in (x ∷ xs)) ≡ length own + length (numbers_in xs) = ap length (flat_map-cons (λ (y : Brought S R). y.kept.value.pool_seat.hand.numbers) x xs) ∙ length-append own (numbers_in xs) in
      let slots : length (slots_in shown (x ∷ xs)) ≡ length mine + length (slots_in shown xs) = ap length (flat_map-cons (λ (y : Brought S R). pass_slots shown y.body y.kept.value) x xs) ∙ length-append mine (slots_in shown xs) in
      let parts : length (numbers_in (x ∷ xs)) + length (slots_in shown (x ∷ xs)) ≡ (length own + length mine) + (length (numbers_in xs) + length (slots_in shown xs)) = omega (arith, numbers, slots) in
      let product : (length (numbers_in (x ∷ xs)) + length (slots_in shown (x ∷ xs))) * n.block ≡ (length own + length mine) * n.block + (length (numbers_in xs) + length (slots_in shown xs)) * n.block =
      ap (λ m. m * n.block) parts ∙ add-mul (length own + length mine) (length (numbers_in xs) + length (slots_in shown xs)) n.block
      in
      omega (arith, one, more, product, suc-mul (length xs) (heap_of n), sum_by-cons (λ (y : Brought S R). y.begun) x xs, sum_by-cons (λ (y : Brought S R). y.accepted) x xs)

module _ {S R : Type 0} (shown : S → Shown) (cmp : R → R → Ordering) (record_of : List ℕ → R) (width : ℕ) (q : BulkParts S R) (failed : Option ℕ) (is : IsApart shown width q failed) (q1 : BulkParts S R) (passes : List (PassHolding S R)) (br : BroughtAll shown record_of width q.sizes cmp passes q q1) (c : Closed S R) (cl : IsClosed shown q1 failed c) (popped : ℕ) (so : IsSoundApart shown cmp record_of width q (sum_by (λ (p : PassHolding S R). p.key.begun) passes) popped) (same : length (slots_of shown q.body c.supply ++ slots_in shown br.brought) ≡ length (apart_slots shown q)) (whole : All (λ (x : Brought S R). x.failed ≡ None) br.brought) where
  abbrev rest : List (Brought S R)
  rest = br.brought

  abbrev size : ℕ
  size = q.count + popped + accepted_in shown rest

  pub counted : q.count ≡ begun_in shown rest + in_runs q
  counted = omega (arith, so.counted, sum-mapped (pass_of shown record_of width q.sizes) (λ (p : PassHolding S R). p.key.begun) rest, ap (sum_by (λ (p : PassHolding S R). p.key.begun)) br.passes_are)

  -- where the row is drawn to its end, each slot of it is with a pass
  all_drawn : cl.left ≡ [] → length (slots_in shown rest) ≡ length q.row_seat.hand.items
  all_drawn none =
      let body = body_slots shown q.body in
      omega (
        arith,
        same,
        length-append (slots_of shown q.body c.supply) (slots_in shown rest),
        length-append body c.supply.kept,
        ap (λ s. length s.kept) cl.supply,
        length-append q1.supply.kept (slots_shown shown cl.left),
        ap (λ p. length p.supply.kept) br.rest,
        ap (λ l. length (slots_shown shown l)) none,
        length-append (slots_of shown q.body q.supply) (slots_shown shown q.row_seat.hand.items),
        length-append body q.supply.kept,
        slots_long shown q.row_seat.hand.items,
      )

  -- so all blocks have room for no more than all records, and a block for each odd run
  room : cl.left ≡ [] → q.sizes.blocks * q.sizes.block ≤ size + 65 * q.sizes.block
  room none =
      let items = length q.row_seat.hand.items in
      let out = q.sizes.blocks - items in
      let few : items ≤ q.sizes.blocks = omega (arith, is.out.slots, length-append (slots_of shown q.body q.supply) (slots_shown shown q.row_seat.hand.items), slots_long shown q.row_seat.hand.items) in
      let parts : q.sizes.blocks ≡ out + items = omega (arith, few) in
      let product : q.sizes.blocks * q.sizes.block ≡ out * q.sizes.block + items * q.sizes.block = ap (λ m. m * q.sizes.block) parts ∙ add-mul out items q.sizes.block in
      let drawn : length (slots_in shown rest) * q.sizes.block ≡ items * q.sizes.block = ap (λ m. m * q.sizes.block) (all_drawn none) in
      omega (arith, product, drawn, so.packed, passes_full shown cmp record_of width q.sizes is.out.home.range rest br.each whole, counted)

  -- what a pass whose push was refused says
  pub short : (peak : ℕ) → size ≤ peak → All (λ (p : PassHolding S R). p.refused ≡ true → (q.sizes.blocks < room_of q.sizes peak) × (heap_of q.sizes ≤ q.count + accepted_in shown rest)) passes
  short peak least =
      let P : PassHolding S R → Type 0 = λ p. p.refused ≡ true → (q.sizes.blocks < room_of q.sizes peak) × (heap_of q.sizes ≤ q.count + accepted_in shown rest) in
      subst (All P) br.passes_are (
      All-map P (pass_of shown record_of width q.sizes) rest (λ k d h refused.
      let one = br.each k d h in
      let none = cl.noted (br.noted k d h (one.always.supply.ended (one.always.ended refused))) in
      let full = heap_full shown cmp record_of width q.sizes is.out.home.range (q.count + accepted_in shown rest) rest br.each whole (omega (arith, counted)) in
      (few_blocks q.sizes is.out.home.range peak (omega (arith, room none, least)), full k d h refused)))

  abbrev taken : List ℕ
  taken = numbers_in rest

  -- the passes have no more slots than were put into the row, and no more buffers than were put into the pool
  few_out : length taken + length (slots_in shown rest) ≤ pool_count q.pool_seat.pool + length q.row_seat.hand.items
  few_out =
      let body = body_slots shown q.body in
      omega (
        arith,
        same,
        length-append (slots_of shown q.body c.supply) (slots_in shown rest),
        length-append body c.supply.kept,
        ap (λ s. length s.kept) cl.supply,
        length-append q1.supply.kept (slots_shown shown cl.left),
        ap (λ p. length p.supply.kept) br.rest,
        length-append (slots_of shown q.body q.supply) (slots_shown shown q.row_seat.hand.items),
        length-append body q.supply.kept,
        slots_long shown q.row_seat.hand.items,
        ap length br.numbers,
        length-append q.pool_seat.hand.numbers taken,
        cl.given_are,
        ap pool_count br.pool,
      )

  -- all records are no more than there is room for
  pub load_within : length rest ≡ q.sizes.workers → q.count + popped + accepted_in shown rest ≤ q.sizes.memory + q.sizes.block * q.sizes.blocks
  load_within many =
      let n = q.sizes in
      let w = n.workers in
      let items = length q.row_seat.hand.items in
      let pool = pool_count q.pool_seat.pool in
      let out = length taken + length (slots_in shown rest) in
      let passes = passes_fit shown cmp record_of width n is.out.home.range rest br.each whole in
      let heaps : length rest * heap_of n ≡ heaps_of n = ap (λ k. k * heap_of n) many in
      let most : out * n.block ≤ (pool + items) * n.block = mul-le-mul_right n.block few_out in
      let there : (items + pool + 2 * w) * n.block ≡ (pool + items) * n.block + (2 * w) * n.block = ap (λ k. k * n.block) (turn items pool (2 * w)) ∙ add-mul (pool + items) (2 * w) n.block in
      let all : (n.blocks + lane_buffers n + pool_of n) * n.block ≡ n.blocks * n.block + lane_buffers n * n.block + pool_of n * n.block = add-mul (n.blocks + lane_buffers n) (pool_of n) n.block ∙ ap (λ k. k + pool_of n * n.block) (add-mul n.blocks (lane_buffers n) n.block) in
      omega (arith, so.fit, counted, passes, heaps, most, there, all, parts_within n is.out.home.range, pool_within n is.out.home.budget, mul_comm n.blocks n.block)
    where
      turn : (a b d : ℕ) → a + b + d ≡ (b + a) + d
      turn a b d = omega arith
