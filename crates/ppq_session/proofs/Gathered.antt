-- A pass that is put into the parts of a queue.
use Rattle.std.proofs.Common.{◌≡◌, ℕ, ◌+◌, ◌-◌, ◌*◌, ◌<◌, ◌≤◌, List, [], ◌∷◌, ◌++◌, length, reverse, sum_by, All, Some, refl, sym, ap, ◌∙◌, subst, arith, append-nil, length-append, inl, inr}
use Rattle.std.specs.Prelude.{◌⊎◌, vec_capacity, Bool, None, flat_map, count_by}
use Rattle.std.specs.declared.cmp.Ordering.{Ordering}
use Rattle.std.proofs.lemmas.Nat.{mul-le}
use Rattle.std.proofs.Math.Nat.{zero-mul}
use Rattle.std.proofs.lemmas.List.Sums.{sum_by-cons, sum_by-append}
use Rattle.std.proofs.lemmas.List.Elements.{All-nil, All-head, All-tail, All-append, All-push, All-take}
use Rattle.std.proofs.lemmas.List.Sorted.{All-permutation, IsPermutation-reverse, sum_by-IsPermutation}
use Rattle.std.proofs.lemmas.List.Concat.{flat_map-cons}
use Rattle.std.proofs.lemmas.Grind.{flat_map-append}
use Rattle.ppq_pass.proofs.Passes.{few_numbers}
use Rattle.ppq_pass.specs.ppq_pool.Seats.{count_of as pool_count}
use Rattle.ppq_pass.specs.ppq_record.Order.{Ascends, Le, is_before}
use Rattle.ppq_pass.specs.ppq_outside.Shown.{Shown, Tells, AllTell}
use Rattle.ppq_pass.specs.ppq_budget.Sizes.{heap_of, pool_of}
use Rattle.ppq_pass.specs.ppq_array.declared.berth.DeviceBlock.{DeviceBlock}
use Rattle.ppq_pass.specs.ppq_array.Run.{Run, items_of, buffers_of}
use Rattle.ppq_pass.specs.ppq_array.External.{External, size_of, counts, records_in}
use Rattle.ppq_pass.specs.ppq_array.Owner.{HasBlock, slots_shown}
use Rattle.ppq_pass.specs.ppq_array.Holdings.{external_slots, internal_buffers, external_buffers, internal_items}
use Rattle.ppq_pass.specs.ppq_array.Supply.{Stock}
use Rattle.ppq_pass.specs.ppq_fetch.Fetching.{IsFitting, count_in, fronts_in, blocks_in, one_if_some}
use Rattle.ppq_pass.specs.PassState.{IsPassed, IsSoundPass, IsPassRun, IsPassArray, all_slots}
use Rattle.ppq_pass.specs.ppq_array.Kept.{HasFailed, weight_at}
use Rattle.ppq_pass.specs.ppq_extract.Extracted.{ServesFor}
use Rattle.ppq_pass.specs.ppq_heap.Heap.{Contents}
use Rattle.ppq_pass.specs.ppq_heap.Heaps.{items_in}
use Rattle.ppq_pass.specs.ppq_spill.Body.{held_by, body_slots, job_slots}
use Rattle.ppq_pass.specs.ppq_spill.declared.body.PassBody.{PassBody}
use Rattle.ppq_pass.specs.ppq_spill.Untold.{untold}
use Rattle.ppq_pass.proofs.ppq_spill.Blocks.{counts_full}
use Rattle.ppq_pass.proofs.ppq_spill.Telling.{tell_sum, sum_tell}
use Rattle.ppq_pass.specs.Passed.{slots_of as pass_slots}
use Rattle.ppq_queue.specs.Slots.{with_slots}
use Rattle.ppq_queue.proofs.Amounts.{runs_fit, arrays_fit, stored_slots, internal_count}
use Rattle.ppq_queue.proofs.Odd.{same_none}
use Rattle.ppq_queue.proofs.Slots.{sum-stored}
use Rattle.ppq_queue.specs.Resting.{IsRestingRun, IsRestingArray, odd_of, odd_in, slots_of, count_of, runs_bag}
use Rattle.ppq_session.specs.Gathering.{IsGathering, IsSoundSoFar, slots_in, buffers_in, begun_in, Adopted}
use Rattle.ppq_session.specs.declared.brought.Brought.{Brought}
use Rattle.ppq_session.specs.declared.closed.Closed.{Closed}
use Rattle.ppq_pass.specs.ppq_record.Bag.{IsSameBag}
use Rattle.ppq_pass.proofs.ppq_record.Order.{count_by-append, Each-append}
use Rattle.ppq_pass.proofs.ppq_array.Noted.{all_left, all_right}
use Rattle.ppq_pass.specs.ppq_fetch.Taking.{NoneAfter}
use Rattle.ppq_queue.specs.Holding.{IsAbove}
use Rattle.ppq_queue.proofs.Moves.{none_after-same}

module _ {X : Type 0} where
  -- a list after another, the last first
  pub sum_by-joined : (f : X → ℕ) (xs ys : List X) → sum_by f (xs ++ reverse ys) ≡ sum_by f xs + sum_by f ys
  sum_by-joined f xs ys = omega (arith, sum_by-append f xs (reverse ys), sum_by-IsPermutation f ys (reverse ys) (IsPermutation-reverse ys))

  pub All-joined : (P : X → Type 0) (xs ys : List X) → All P xs → All P ys → All P (xs ++ reverse ys)
  All-joined P xs ys a b = All-append P xs (reverse ys) a (All-permutation P ys (reverse ys) (IsPermutation-reverse ys) b)

-- the records of one heap more
pub items-push : {R : Type 0} (heaps : List (Contents R)) (heap : Contents R) → length (items_in (heaps ++ heap ∷ [])) ≡ length (items_in heaps) + length heap.items
items-push {R} heaps heap =
    let g : Contents R → List R = λ h. h.items in
    omega (arith, ap length (flat_map-append g heaps (heap ∷ [])), length-append (items_in heaps) (items_in (heap ∷ [])), ap length (flat_map-cons g heap [] ∙ append-nil heap.items))

module _ {S R : Type 0} (shown : S → Shown) where
  -- a weight of the slots of runs with others after them, the last first
  pub stored-joined : (f : Shown → ℕ) (xs ys : List (External S R)) → sum_by f (external_slots shown (xs ++ reverse ys)) ≡ sum_by f (external_slots shown xs) + sum_by f (external_slots shown ys)
  stored-joined f xs ys =
      omega (arith, sum-stored shown f (xs ++ reverse ys), sum-stored shown f xs, sum-stored shown f ys, sum_by-joined (λ (a : External S R). sum_by f (slots_shown shown a.stored)) xs ys)

-- a run in buffers of a pass rests
pub resting-run : {R : Type 0} (block heap : ℕ) (run : Run R) → 0 < heap → IsPassRun block heap run → IsRestingRun block run
resting-run block heap run some is = record { some = omega (arith, is.whole, some); spent = is.spent; blocks = is.blocks; fitting = is.fitting }

module _ {S R : Type 0} (shown : S → Shown) (width block heap : ℕ) (a : External S R) (is : IsPassArray shown width block heap a) where
  none : buffers_of a.loaded ≡ []
  none = ap buffers_of is.loaded

  -- it rests
  pub resting-array : 0 < heap → IsRestingArray shown width block a
  resting-array some =
      record {
        some = omega (arith, is.whole, some);
        level = omega (arith, is.level);
        lifted = is.lifted;
        size = is.size;
        loaded = subst (All (λ x. x.block ≡ block)) (sym none) (All-nil (λ x. x.block ≡ block));
        fitting = subst (All IsFitting) (sym none) (All-nil IsFitting);
        spent = ap (λ r. r.spent) is.loaded;
        packed = record {
          full = All-take (λ (b : DeviceBlock S R). b.count ≡ block) (length a.stored - 1) a.stored is.full;
          last = λ k d h. omega (arith, is.full k d h);
        };
        written = is.written;
      }

  -- and it is not odd
  pub even-array : odd_of block a ≡ 0
  even-array =
      let size : size_of a ≡ length a.stored * block =
      omega (arith, ap (λ r. length (items_of r)) is.loaded, ap (λ (l : List (DeviceBlock S R)). counts (l ++ a.stored)) is.lifted, counts_full block a.stored is.full)
      in
      same_none (size_of a) (length a.stored * block) size

module _ {S R : Type 0} (shown : S → Shown) (width : ℕ) (slots items : List Shown) (c : Closed S R) (one : Brought S R) (rest : List (Brought S R)) (a : IsGathering shown width slots items c (rest ++ one ∷ [])) where
  slots-push : (f : Shown → ℕ) → sum_by f (slots_in shown (rest ++ one ∷ [])) ≡ sum_by f (slots_in shown rest) + sum_by f (pass_slots shown one.body one.kept.value)
  slots-push f =
      let g : Brought S R → List Shown = λ x. pass_slots shown x.body x.kept.value in
      omega (arith, ap (sum_by f) (flat_map-append g rest (one ∷ [])), sum_by-append f (slots_in shown rest) (slots_in shown (one ∷ [])), ap (sum_by f) (flat_map-cons g one [] ∙ append-nil (g one)))

  pub buffers-push : buffers_in shown (rest ++ one ∷ []) ≡ buffers_in shown rest + (held_by shown one.body).buffers
  buffers-push = omega (arith, sum_by-append (λ (x : Brought S R). (held_by shown x.body).buffers) rest (one ∷ []), sum_by-cons (λ (x : Brought S R). (held_by shown x.body).buffers) one [])

  -- a pass more was put in: its slots and its buffers are among those of the parts
  pub gathering-more :
      (new : Closed S R)
      → IsPassed shown width c.sizes one.heap one.body one.kept.value one.refused one.failed
      → new.heaps.items ≡ c.heaps.items ++ one.heap ∷ [] → vec_capacity new.heaps ≡ vec_capacity c.heaps
      → ((f : Shown → ℕ) → sum_by f (slots_of shown new.body new.supply) ≡ sum_by f (slots_of shown c.body c.supply) + sum_by f (pass_slots shown one.body one.kept.value))
      → (held_by shown new.body).buffers ≡ (held_by shown c.body).buffers + (held_by shown one.body).buffers → new.body.lanes.jobs.items ≡ []
      → new.supply ≡ with_slots c.supply new.supply.kept new.supply.slot_room → length new.supply.kept + new.supply.slot_room ≡ length c.supply.kept + c.supply.slot_room
      → ((number : ℕ) → new.failed ≡ Some number → (c.failed ≡ Some number) ⊎ (one.failed ≡ Some number))
      → new ≡ record c { heaps = new.heaps; body = new.body; supply = new.supply; count = new.count; counts = new.counts; failed = new.failed }
      → IsGathering shown width slots items new rest
  gathering-more new passed heaps heaps_room sums held no_job stock room failed same =
      let old : List Shown = slots_of shown c.body c.supply ++ slots_in shown (rest ++ one ∷ []) in
      let now : List Shown = slots_of shown new.body new.supply ++ slots_in shown rest in
      let all : (f : Shown → ℕ) → sum_by f old ≡ sum_by f now =
      λ f. omega (arith, sum_by-append f (slots_of shown c.body c.supply) (slots_in shown (rest ++ one ∷ [])), sum_by-append f (slots_of shown new.body new.supply) (slots_in shown rest), slots-push f, sums f)
      in
      let n = ap (λ q. q.sizes) same in
      let count : length new.heaps.items + length rest ≡ c.sizes.workers = omega (arith, a.heaps, ap length heaps, length-append c.heaps.items (one.heap ∷ []), length-append rest (one ∷ [])) in
      let caps = All-push (λ (h : Contents R). h.cap ≡ heap_of c.sizes) c.heaps.items one.heap a.caps passed.cap in
      let is : IsGathering shown width slots items (record new { sizes = c.sizes }) rest =
      record {
        range = a.range;
        budget = a.budget;
        heaps = count;
        heaps_room = omega (arith, a.heaps_room, heaps_room);
        caps = subst (λ l. All (λ (h : Contents R). h.cap ≡ heap_of c.sizes) l) (sym heaps) caps;
        leaves = ap (λ q. length q.tree.items) same ∙ a.leaves;
        block = ap (λ s. s.block) stock ∙ a.block;
        no_row = ap (λ s. s.drawn) stock ∙ a.no_row;
        pool = omega (arith, ap (λ s. s.sure_buffers) stock, ap (λ s. s.buffer_room) stock, a.pool);
        slot_room = room ∙ a.slot_room;
        no_job = no_job;
        holds = omega (arith, held, a.holds, buffers-push, ap (λ s. s.buffer_room) stock);
        all_slots = a.all_slots;
        overreads = a.overreads;
        sums = λ f. sym (all f) ∙ a.sums f;
        told = a.told;
        fault = λ number e. by_fault number (failed number e);
        extract_room = ap (λ q. q.extract.room) same ∙ a.extract_room;
        in_extract = omega (arith, ap (λ q. length q.extract.items) same, a.in_extract);
        workers = ap (λ q. q.sources.bench.workers) same ∙ a.workers;
        serves = subst (λ s. ServesFor (pool_of c.sizes + 65) s) (sym (ap (λ q. q.sources) same)) a.serves;
        no_slot = ap (λ q. q.slots.items) same ∙ a.no_slot;
        slots_room = omega (arith, a.slots_room, ap (λ q. vec_capacity q.slots) same);
        most_peak = omega (arith, a.most_peak, ap (λ q. q.peak) same);
      }
      in
      subst (λ q. IsGathering shown width slots items q rest) (ap (λ m. record new { sizes = m }) (sym n)) is
    where
      by_fault : (number : ℕ) → (c.failed ≡ Some number) ⊎ (one.failed ≡ Some number) → HasFailed number slots
      by_fault number (inl e) = a.fault number e
      by_fault number (inr e) =
          let f = weight_at (λ s. s.faults) number in
          omega (arith, (passed.fault number e).0, a.sums f, sum_by-append f (slots_of shown c.body c.supply) (slots_in shown (rest ++ one ∷ [])), slots-push f)

module _ {S R : Type 0} (shown : S → Shown) (old from new : PassBody S R) (is : Adopted old from new) (no_job : from.lanes.jobs.items ≡ []) where
  -- its slots, with those of a stash that were freed
  pub adopted-slots :
      (f : Shown → ℕ) (s t : Stock) (stash : List (DeviceBlock S R)) → t.kept ≡ s.kept ++ slots_shown shown stash
      → sum_by f (slots_of shown new t) ≡ sum_by f (slots_of shown old s) + sum_by f (body_slots shown from ++ slots_shown shown stash)
  adopted-slots f s t stash kept =
      omega (
        arith,
        sum_by-append f (external_slots shown new.runs.external.items ++ job_slots shown new.lanes.jobs.items) t.kept,
        sum_by-append f (external_slots shown new.runs.external.items) (job_slots shown new.lanes.jobs.items),
        ap (λ (l : List (External S R)). sum_by f (external_slots shown l)) is.external,
        stored-joined shown f old.runs.external.items from.runs.external.items,
        ap (λ j. sum_by f (job_slots shown j.items)) is.jobs,
        ap (sum_by f) kept,
        sum_by-append f s.kept (slots_shown shown stash),
        sum_by-append f (external_slots shown old.runs.external.items ++ job_slots shown old.lanes.jobs.items) s.kept,
        sum_by-append f (external_slots shown old.runs.external.items) (job_slots shown old.lanes.jobs.items),
        sum_by-append f (body_slots shown from) (slots_shown shown stash),
        sum_by-append f (external_slots shown from.runs.external.items) (job_slots shown from.lanes.jobs.items),
        ap (λ l. sum_by f (job_slots shown l)) no_job,
      )

  -- its buffers
  pub adopted-buffers : (held_by shown new).buffers ≡ (held_by shown old).buffers + (held_by shown from).buffers
  adopted-buffers =
      omega (
        arith,
        ap internal_buffers is.internal,
        sum_by-joined (λ (run : Run R). length (buffers_of run)) old.runs.internal.items from.runs.internal.items,
        ap external_buffers is.external,
        sum_by-joined (λ (a : External S R). length (buffers_of a.loaded)) old.runs.external.items from.runs.external.items,
        ap length is.idle,
        length-append old.lanes.idle from.lanes.idle,
        ap (λ j. length j.items) is.jobs,
        ap length no_job,
      )

  -- its records
  pub adopted-count : count_of new ≡ count_of old + count_of from
  adopted-count =
      omega (
        arith,
        ap (λ l. count_in l new.runs.external.items) is.internal,
        ap (λ (l : List (External S R)). sum_by size_of l) is.external,
        sum_by-joined (λ (run : Run R). length (items_of run)) old.runs.internal.items from.runs.internal.items,
        sum_by-joined (λ (a : External S R). size_of a) old.runs.external.items from.runs.external.items,
      )

module _ {X R : Type 0} (f : X → List R) (p : R → Bool) where
  pub count-flat : (xs : List X) → count_by p (flat_map f xs) ≡ sum_by (λ x. count_by p (f x)) xs
  count-flat [] = refl
  count-flat (x ∷ xs) = ap (count_by p) (flat_map-cons f x xs) ∙ omega (arith, count_by-append p (f x) (flat_map f xs), count-flat xs, sum_by-cons (λ y. count_by p (f y)) x xs)

  pub count-joined : (xs ys : List X) → count_by p (flat_map f (xs ++ reverse ys)) ≡ count_by p (flat_map f xs) + count_by p (flat_map f ys)
  count-joined xs ys = omega (arith, count-flat (xs ++ reverse ys), count-flat xs, count-flat ys, sum_by-joined (λ y. count_by p (f y)) xs ys)

-- the records of the runs
pub adopted-bag :
    {S R : Type 0} (shown : S → Shown) (record_of : List ℕ → R) (width : ℕ) (old from new : PassBody S R) → Adopted old from new
    → IsSameBag (runs_bag shown record_of width old ++ runs_bag shown record_of width from) (runs_bag shown record_of width new)
adopted-bag shown record_of width old from new is p =
    let r = records_in record_of width shown in
    omega (
      arith,
      count_by-append p (runs_bag shown record_of width old) (runs_bag shown record_of width from),
      count_by-append p (internal_items old.runs.internal.items) (flat_map r old.runs.external.items),
      count_by-append p (internal_items from.runs.internal.items) (flat_map r from.runs.external.items),
      count_by-append p (internal_items new.runs.internal.items) (flat_map r new.runs.external.items),
      ap (λ l. count_by p (internal_items l)) is.internal,
      count-joined items_of p old.runs.internal.items from.runs.internal.items,
      ap (λ l. count_by p (flat_map r l)) is.external,
      count-joined r p old.runs.external.items from.runs.external.items,
    )

module _ {R : Type 0} (cmp : R → R → Ordering) where
  none_after-both : (xs ys zs : List R) → NoneAfter cmp xs ys → NoneAfter cmp xs zs → NoneAfter cmp xs (ys ++ zs)
  none_after-both [] ys zs h k = tt
  none_after-both (x ∷ xs) ys zs h k = (Each-append (Le (is_before cmp) x) ys zs h.0 k.0, none_after-both xs ys zs h.1 k.1)

module _ {X : Type 0} where
  sum-zero : (f : X → ℕ) (xs : List X) → All (λ x. f x ≡ 0) xs → sum_by f xs ≡ 0
  sum-zero f [] all = refl
  sum-zero f (x ∷ xs) all =
      let here : f x ≡ 0 = All-head (λ x. f x ≡ 0) x xs all in
      omega (arith, here, sum-zero f xs (All-tail (λ x. f x ≡ 0) x xs all), sum_by-cons f x xs)

  -- a sum of such numbers is none, or as much as one of them
  sum-some : (f : X → ℕ) (least : ℕ) (xs : List X) → All (λ x. least ≤ f x) xs → (sum_by f xs ≡ 0) ⊎ (least ≤ sum_by f xs)
  sum-some f least [] all = inl refl
  sum-some f least (x ∷ xs) all =
      let here : least ≤ f x = All-head (λ x. least ≤ f x) x xs all in
      inr (omega (arith, here, sum_by-cons f x xs))

module _ {S R : Type 0} (shown : S → Shown) (cmp : R → R → Ordering) (record_of : List ℕ → R) (width : ℕ) (slots items : List Shown) (c : Closed S R) (one : Brought S R) (rest : List (Brought S R)) (a : IsGathering shown width slots items c (rest ++ one ∷ [])) (s : IsSoundSoFar shown cmp record_of width c (rest ++ one ∷ [])) (passed : IsPassed shown width c.sizes one.heap one.body one.kept.value one.refused one.failed) (p : IsSoundPass shown cmp record_of width c.sizes one.heap one.body one.kept.value one.begun one.accepted one.refused) (items_are : slots_shown shown one.kept.value.row_seat.hand.items ≡ items) where
  pub some_heap : 0 < heap_of c.sizes
  some_heap =
      let least : 1 * 1 ≤ c.sizes.heap * c.sizes.block = mul-le 1 1 c.sizes.heap c.sizes.block a.range.some_heap (omega (arith, a.range.two_records)) in
      omega (arith, least)

  pub rests : All (IsRestingArray shown width c.sizes.block) one.body.runs.external.items
  rests k d h = resting-array shown width c.sizes.block (heap_of c.sizes) _ (p.external k d h) some_heap

  no_loaded : external_buffers one.body.runs.external.items ≡ 0
  no_loaded = sum-zero (λ (x : External S R). length (buffers_of x.loaded)) one.body.runs.external.items (λ k d h. ap (λ r. length (buffers_of r)) (p.external k d h).loaded)

  no_fronts : fronts_in one.body.runs.external.items ≡ 0
  no_fronts = sum-zero (λ (x : External S R). one_if_some (items_of x.loaded)) one.body.runs.external.items (λ k d h. ap (λ r. one_if_some (items_of r)) (p.external k d h).loaded)

  pub no_odd : odd_in c.sizes.block one.body.runs.external.items ≡ 0
  no_odd = sum-zero (odd_of c.sizes.block) one.body.runs.external.items (λ k d h. even-array shown width c.sizes.block (heap_of c.sizes) _ (p.external k d h))

  -- where it has runs, it has more records than a heap holds
  many : 0 < count_of one.body → heap_of c.sizes < length one.heap.items + count_of one.body
  many some =
      by_parts
      (sum-some (λ (run : Run R). length (items_of run)) (heap_of c.sizes) one.body.runs.internal.items (λ k d h. (let e = (p.internal k d h).whole in omega (arith, e))))
      (sum-some (λ (x : External S R). size_of x) (heap_of c.sizes) one.body.runs.external.items (λ k d h. (p.external k d h).whole))
    where
      by_parts :
          (sum_by (λ (run : Run R). length (items_of run)) one.body.runs.internal.items ≡ 0) ⊎ (heap_of c.sizes ≤ sum_by (λ (run : Run R). length (items_of run)) one.body.runs.internal.items)
          → (sum_by (λ (x : External S R). size_of x) one.body.runs.external.items ≡ 0) ⊎ (heap_of c.sizes ≤ sum_by (λ (x : External S R). size_of x) one.body.runs.external.items)
          → heap_of c.sizes < length one.heap.items + count_of one.body
      by_parts (inl i) (inl e) = absurd (omega (arith, some, i, e))
      by_parts (inr i) e = omega (arith, i, p.some some)
      by_parts (inl i) (inr e) = omega (arith, e, p.some some)

  -- its records are few
  pub accepted_few : one.accepted ≤ 34359738368
  accepted_few =
      let i = internal_buffers one.body.runs.internal.items in
      let k = blocks_in one.body.runs.external.items in
      let block = c.sizes.block in
      let int = runs_fit block one.body.runs.internal.items (λ j d h. resting-run block (heap_of c.sizes) _ some_heap (p.internal j d h)) in
      let ext = arrays_fit shown width block one.body.runs.external.items rests in
      let none : external_buffers one.body.runs.external.items * block ≡ 0 = ap (λ m. m * block) no_loaded ∙ zero-mul block in
      let bufs : i ≤ 65536 = omega (arith, passed.takes_back.buffers, passed.few_buffers, numbers_few) in
      let blocks : k ≤ 65536 = omega (arith, sym (stored_slots shown one.body.runs.external.items), passed.takes_back.slots, places_few, passed.few_slots, a.range.blocks) in
      let one_side : i * block ≤ 65536 * 65536 = mul-le i block 65536 65536 bufs a.range.block in
      let other : k * block ≤ 65536 * 65536 = mul-le k block 65536 65536 blocks a.range.block in
      let heap : c.sizes.heap * c.sizes.block ≤ 64 * 65536 = mul-le c.sizes.heap c.sizes.block 64 65536 a.range.heap a.range.block in
      omega (arith, p.counted, int, ext, none, one_side, other, heap, passed.in_heap, internal_count one.body.runs.internal.items)
    where
      numbers_few : length one.kept.value.numbers.items ≤ pool_count one.kept.value.pool_seat.pool
      numbers_few = few_numbers one.kept.value.numbers.items (pool_count one.kept.value.pool_seat.pool) passed.supply.below passed.supply.each_once

      places_few : length one.kept.value.row_seat.hand.places ≤ length one.kept.value.row_seat.hand.items
      places_few = passed.supply.once (length one.kept.value.row_seat.hand.items) passed.supply.drawn

  -- what holds of the parts after the pass was put in
  module _ (new : Closed S R) (whole : one.failed ≡ None) (is : Adopted c.body one.body new.body) (heaps : new.heaps.items ≡ c.heaps.items ++ one.heap ∷ []) (stash : new.supply.kept ≡ c.supply.kept ++ slots_shown shown one.kept.value.stash) (count : new.count ≡ c.count + one.accepted) (same : new ≡ record c { heaps = new.heaps; body = new.body; supply = new.supply; count = new.count; counts = new.counts; failed = new.failed }) where
    all_items : length (items_in new.heaps.items) ≡ length (items_in c.heaps.items) + length one.heap.items
    all_items = ap (λ l. length (items_in l)) heaps ∙ items-push c.heaps.items one.heap

    was : AllTell (slots_of shown new.body new.supply ++ slots_in shown rest) → AllTell (slots_of shown c.body c.supply ++ slots_in shown (rest ++ one ∷ []))
    was tell =
        let old : List Shown = slots_of shown c.body c.supply ++ slots_in shown (rest ++ one ∷ []) in
        let now : List Shown = slots_of shown new.body new.supply ++ slots_in shown rest in
        sum_tell old
        (omega (
          arith,
          tell_sum now tell,
          sum_by-append untold (slots_of shown c.body c.supply) (slots_in shown (rest ++ one ∷ [])),
          sum_by-append untold (slots_of shown new.body new.supply) (slots_in shown rest),
          slots-push shown width slots items c one rest a untold,
          adopted-slots shown c.body one.body new.body is passed.no_job untold c.supply new.supply one.kept.value.stash stash,
        ))

    -- its own slots tell, and all that the row had
    own : AllTell (slots_of shown c.body c.supply ++ slots_in shown (rest ++ one ∷ [])) → AllTell (all_slots shown one.body one.kept.value)
    own told =
        let mine = pass_slots shown one.body one.kept.value in
        let old : List Shown = slots_of shown c.body c.supply ++ slots_in shown (rest ++ one ∷ []) in
        let there = subst AllTell (sym items_are) (a.told (sum_tell slots (sym (a.sums untold) ∙ tell_sum old told))) in
        let left =
        sum_tell mine
        (omega (
          arith,
          tell_sum (slots_of shown c.body c.supply ++ slots_in shown (rest ++ one ∷ [])) told,
          sum_by-append untold (slots_of shown c.body c.supply) (slots_in shown (rest ++ one ∷ [])),
          slots-push shown width slots items c one rest a untold,
        ))
        in
        All-append Tells mine (slots_shown shown one.kept.value.row_seat.hand.items) left there

    pub sound-more' : IsSoundSoFar shown cmp record_of width (record new { sizes = c.sizes }) rest
    sound-more' =
        let P = λ (run : Run R). Ascends cmp (items_of run) in
        let Q = λ (x : External S R). Ascends cmp (records_in record_of width shown x) in
        let n = c.sizes in
        record {
          idle = subst (λ l. All (HasBlock n.block) l) (sym is.idle) (All-append (HasBlock n.block) c.body.lanes.idle one.body.lanes.idle s.idle (subst (λ b. All (HasBlock b) one.body.lanes.idle) passed.block passed.size.idle));
          internal = subst (λ l. All (IsRestingRun n.block) l) (sym is.internal) (All-joined (IsRestingRun n.block) c.body.runs.internal.items one.body.runs.internal.items s.internal (λ k d h. resting-run n.block (heap_of n) _ some_heap (p.internal k d h)));
          external = subst (λ l. All (IsRestingArray shown width n.block) l) (sym is.external) (All-joined (IsRestingArray shown width n.block) c.body.runs.external.items one.body.runs.external.items s.external rests);
          batch = ap (λ v. length v.items) is.batch ∙ s.batch;
          buffers = omega (arith, s.buffers, length-append rest (one ∷ []), ap length is.idle, length-append c.body.lanes.idle one.body.lanes.idle, passed.two, ext);
          bounded = omega (arith, s.bounded, ext, fronts);
          fronts = omega (arith, s.fronts, fronts);
          few = omega (arith, s.few, ap (odd_in n.block) is.external, sum_by-joined (odd_of n.block) c.body.runs.external.items one.body.runs.external.items, no_odd);
          internal_room = omega (arith, s.internal_room, is.internal_room);
          external_room = omega (arith, s.external_room, is.external_room);
          tree = omega (arith, s.tree, ap (λ t. length t.items) is.tree);
          rise = λ tell.
              let told = was tell in
              let old = s.rise told in
              record {
                internal = subst (λ l. All P l) (sym is.internal) (All-joined P c.body.runs.internal.items one.body.runs.internal.items old.internal p.ascend);
                external = subst (λ l. All Q l) (sym is.external) (All-joined Q c.body.runs.external.items one.body.runs.external.items old.external (p.rise (own told)));
              };
          small = omega (arith, s.small, count, length-append rest (one ∷ []), accepted_few);
          counted = omega (arith, s.counted, count, all_items, records, p.counted, begun, same_extract);
          above = λ more. higher (omega (arith, more, same_extract)) (adopted-count shown c.body one.body new.body is passed.no_job);
          ascends = λ tell. subst (Ascends cmp) (sym (ap (λ q. q.extract.items) same)) (s.ascends (was tell));
          order = λ tell.
              let told = was tell in
              let mine = All-head After one [] (all_right After rest (one ∷ []) (s.order_rest told)) whole in
              let both = none_after-both cmp c.extract.items (runs_bag shown record_of width c.body) (runs_bag shown record_of width one.body) (s.order told) mine in
              let all = none_after-same cmp c.extract.items (runs_bag shown record_of width c.body ++ runs_bag shown record_of width one.body) (runs_bag shown record_of width new.body) (adopted-bag shown record_of width c.body one.body new.body is) both in
              subst (λ l. NoneAfter cmp l (runs_bag shown record_of width new.body)) (sym (ap (λ q. q.extract.items) same)) all;
          order_rest = λ tell.
              subst (λ l. All (λ (x : Brought S R). x.failed ≡ None → NoneAfter cmp l (runs_bag shown record_of width x.body)) rest) (sym (ap (λ q. q.extract.items) same))
              (all_left After rest (one ∷ []) (s.order_rest (was tell)));
        }
      where
        ext : external_buffers new.body.runs.external.items ≡ external_buffers c.body.runs.external.items
        ext = omega (arith, ap external_buffers is.external, sum_by-joined (λ (x : External S R). length (buffers_of x.loaded)) c.body.runs.external.items one.body.runs.external.items, no_loaded)

        fronts : fronts_in new.body.runs.external.items ≡ fronts_in c.body.runs.external.items
        fronts = omega (arith, ap fronts_in is.external, sum_by-joined (λ (x : External S R). one_if_some (items_of x.loaded)) c.body.runs.external.items one.body.runs.external.items, no_fronts)

        records : count_of new.body ≡ count_of c.body + count_of one.body
        records = adopted-count shown c.body one.body new.body is passed.no_job

        begun : begun_in shown (rest ++ one ∷ []) ≡ begun_in shown rest + one.begun
        begun = omega (arith, sum_by-append (λ (x : Brought S R). x.begun) rest (one ∷ []), sum_by-cons (λ (x : Brought S R). x.begun) one [])

        After : Brought S R → Type 0
        After x = x.failed ≡ None → NoneAfter cmp c.extract.items (runs_bag shown record_of width x.body)

        same_extract : length new.extract.items ≡ length c.extract.items
        same_extract = ap (λ q. length q.extract.items) same

        -- a record that is in no heap
        Is_high : Closed S R → Type 0
        Is_high q = IsAbove c.sizes q.peak q.limited ⊎ (heap_of c.sizes < length (items_in q.heaps.items) + length q.extract.items + count_of q.body)

        higher : 0 < length c.extract.items + count_of new.body → count_of new.body ≡ count_of c.body + count_of one.body → Is_high new
        higher more sum = by_old (zero_or (length c.extract.items + count_of c.body))
          where
            zero_or : (k : ℕ) → (k ≡ 0) ⊎ (0 < k)
            zero_or k = grind arith

            from_old : Is_high c → Is_high new
            from_old (inl h) = inl (λ e. omega (arith, h (sym (ap (λ q. q.limited) same) ∙ e), ap (λ q. q.peak) same))
            from_old (inr h) = inr (omega (arith, h, all_items, sum, same_extract))

            by_old : (length c.extract.items + count_of c.body ≡ 0) ⊎ (0 < length c.extract.items + count_of c.body) → Is_high new
            by_old (inl z) = inr (omega (arith, all_items, sum, same_extract, many (omega (arith, more, sum, z))))
            by_old (inr h) = from_old (s.above h)
