-- A queue of parts into which all passes were put.
use Rattle.std.proofs.Common.{◌≡◌, ℕ, ◌+◌, ◌*◌, ◌<◌, ◌≤◌, List, [], ◌∷◌, ◌++◌, length, max, min, sum_by, Option, Some, None, All, sym, ap, ap₂, ◌∙◌, subst, arith, inl, inr, append-nil, length-append}
use Rattle.std.specs.Prelude.{◌⊎◌}
use Rattle.std.specs.Option.{option_or}
use Rattle.std.specs.declared.cmp.Ordering.{Ordering}
use Rattle.std.proofs.lemmas.List.Elements.{All-head}
use Rattle.ppq_pass.specs.ppq_outside.Shown.{Shown, AllTell}
use Rattle.ppq_pass.specs.ppq_budget.Sizes.{heap_of, heaps_of}
use Rattle.ppq_pass.specs.ppq_heap.Heap.{Contents}
use Rattle.ppq_pass.specs.ppq_heap.Heaps.{Shares, AreShares, cap_of, items_of, items_in}
use Rattle.ppq_pass.specs.ppq_array.Owner.{HasBlock}
use Rattle.ppq_pass.specs.ppq_array.Holdings.{external_slots}
use Rattle.ppq_pass.specs.ppq_spill.Body.{job_slots}
use Rattle.ppq_queue.specs.declared.queue_parts.QueueParts.{QueueParts}
use Rattle.ppq_pass.specs.ppq_counts.Account.{IsCounted, beside}
use Rattle.ppq_pass.proofs.ppq_counts.Counted.{counted-sound, counted-beside}
use Rattle.ppq_pass.specs.ppq_spill.Costing.{body_account}
use Rattle.ppq_queue.specs.Paying.{whole_account}
use Rattle.ppq_queue.specs.Handed.{IsWhole}
use Rattle.ppq_queue.specs.State.{IsQueue, IsSound}
use Rattle.ppq_queue.specs.Resting.{AtRest, IsRestingRun, IsRestingArray, count_of, slots_of, odd_in}
use Rattle.ppq_queue.proofs.Bounds.{records_most}
use Rattle.ppq_queue.proofs.Slots.{SameSums-length}
use Rattle.ppq_queue.proofs.Shared.{all_within}
use Rattle.ppq_pass.specs.ppq_array.Kept.{HasFailed, weight_at, overread}
use Rattle.ppq_queue.specs.Holding.{IsAbove}
use Rattle.ppq_session.specs.Gathering.{IsGathered, IsGathering, IsSoundSoFar, gathered_account}
use Rattle.ppq_session.specs.declared.closed.Closed.{Closed}
use Rattle.ppq_session.proofs.PutIn.{or_none, or_some}

module _ {R : Type 0} where
  pub cap_first : (heaps : List (Contents R)) (cap : ℕ) → 0 < length heaps → All (λ (h : Contents R). h.cap ≡ cap) heaps → cap_of heaps ≡ cap
  cap_first [] cap some all = absurd (omega arith)
  cap_first (x ∷ xs) cap some all = All-head (λ (h : Contents R). h.cap ≡ cap) x xs all

-- the parts as a queue's, with these heaps
abbrev pub parts_of : {S R : Type 0} → Closed S R → Shares R → ℕ → ℕ → Option ℕ → QueueParts S R
parts_of c heaps count load first =
    record { sizes = c.sizes; heaps = heaps; body = c.body; supply = c.supply; extract = c.extract; sources = c.sources; count = count; peak = max c.peak load; limited = c.limited; failed = option_or first c.failed; counts = c.counts; slots = c.slots }

module _ {S R : Type 0} (shown : S → Shown) (cmp : R → R → Ordering) (record_of : List ℕ → R) (width : ℕ) (slots items : List Shown) (c : Closed S R) (is : IsGathered shown cmp record_of width slots items c []) (heaps : Shares R) (heaps_are : heaps.heaps ≡ c.heaps.items) (cap : heaps.cap ≡ heap_of c.sizes) (are : AreShares heaps) where
  a : IsGathering shown width slots items c []
  a = is.always

  all_here : length (slots_of shown c.body c.supply) ≡ c.sizes.blocks
  all_here = ap length (sym (append-nil (slots_of shown c.body c.supply))) ∙ sym (SameSums-length (slots_of shown c.body c.supply ++ []) slots a.sums) ∙ a.all_slots

  held_here : length (external_slots shown c.body.runs.external.items) + length c.supply.kept ≡ c.sizes.blocks
  held_here =
      omega (
        arith,
        all_here,
        length-append (external_slots shown c.body.runs.external.items ++ job_slots shown c.body.lanes.jobs.items) c.supply.kept,
        length-append (external_slots shown c.body.runs.external.items) (job_slots shown c.body.lanes.jobs.items),
        ap (λ l. length (job_slots shown l)) a.no_job,
      )

  rest_here : IsSoundSoFar shown cmp record_of width c [] → AtRest shown cmp record_of width c.sizes c.body c.supply
  rest_here s =
      record {
        block = a.block;
        idle = subst (λ b. All (HasBlock b) c.body.lanes.idle) (sym a.block) s.idle;
        internal = subst (λ b. All (IsRestingRun b) c.body.runs.internal.items) (sym a.block) s.internal;
        external = subst (λ b. All (IsRestingArray shown width b) c.body.runs.external.items) (sym a.block) s.external;
        takes_back = record { slots = omega (arith, held_here, a.slot_room); buffers = omega (arith, a.holds, s.buffers, ap length a.no_job) };
        no_job = a.no_job;
        batch = s.batch ∙ ap (λ b. c.sizes.workers * b) (sym a.block);
        buffers = omega (arith, s.buffers);
        held = omega (arith, a.holds, ap length a.no_job);
        bounded = s.bounded;
        fronts = s.fronts;
        few = subst (λ b. odd_in b c.body.runs.external.items ≤ 65) (sym a.block) s.few;
        pool = a.pool;
        slots = a.slot_room;
        internal_room = s.internal_room;
        external_room = s.external_room;
        leaves = s.tree;
        rise = λ tell. s.rise (subst AllTell (sym (append-nil (slots_of shown c.body c.supply))) tell);
      }

  all_heaps : length (items_of heaps) ≤ heaps_of c.sizes
  all_heaps =
      let count : length heaps.heaps ≡ c.sizes.workers = omega (arith, ap length heaps_are, a.heaps) in
      subst (λ k. length (items_of heaps) ≤ k) (ap₂ (λ x y. x * y) count cap) (all_within heaps are)

  module _ (first : Option ℕ) (named : (number : ℕ) → first ≡ Some number → HasFailed number slots) (count load popped : ℕ) (count_is : count ≡ min c.count (c.sizes.memory + c.sizes.block * c.sizes.blocks)) (load_is : load ≡ min (c.count + popped) (c.sizes.memory + c.sizes.block * c.sizes.blocks)) where
    fault_here : (number : ℕ) → option_or first c.failed ≡ Some number → HasFailed number (slots_of shown c.body c.supply)
    fault_here number e =
        let f = weight_at (λ s. s.faults) number in
        omega (arith, met (or_some first c.failed number e), a.sums f, ap (sum_by f) (append-nil (slots_of shown c.body c.supply)))
      where
        met : (first ≡ Some number) ⊎ (c.failed ≡ Some number) → HasFailed number slots
        met (inl h) = named number h
        met (inr h) = a.fault number h

    queue_here : IsQueue shown c.sizes heaps c.extract c.body c.supply count (max c.peak load) (option_or first c.failed)
    queue_here =
        record {
          range = a.range;
          budget = a.budget;
          cap = cap;
          shares = omega (arith, ap length heaps_are, a.heaps);
          in_heap = all_heaps;
          room = a.extract_room;
          in_extract = a.in_extract;
          held = omega (arith, a.holds);
          pool = a.pool;
          slots = all_here;
          overreads = omega (arith, a.sums overread, a.overreads, ap (sum_by overread) (append-nil (slots_of shown c.body c.supply)));
          no_row = a.no_row;
          counted = omega (arith, count_is, load_is);
          most = omega (arith, load_is, a.most_peak);
          most_count = omega (arith, count_is);
          fault = fault_here;
        }

    sound_here : c.failed ≡ None → IsSound shown cmp record_of width c.sizes heaps c.extract c.body c.supply c.sources count (max c.peak load) c.limited
    sound_here none =
        let s = is.sound none in
        let rest = rest_here s in
        let items : length (items_of heaps) ≡ length (items_in c.heaps.items) = ap (λ l. length (items_in l)) heaps_are in
        let most = records_most shown cmp record_of width c.sizes c.body c.supply rest a.range a.budget (length (items_of heaps)) (length c.extract.items) all_heaps a.in_extract in
        let all : count ≡ length (items_of heaps) + length c.extract.items + count_of c.body = omega (arith, count_is, s.counted, most, items) in
        let tells : AllTell (slots_of shown c.body c.supply) → AllTell (slots_of shown c.body c.supply ++ []) = subst AllTell (sym (append-nil (slots_of shown c.body c.supply))) in
        record {
          rest = rest;
          counted = all;
          ascends = λ tell. s.ascends (tells tell);
          order = λ tell. s.order (tells tell);
          above = λ more. high (s.above (omega (arith, more, all))) all items;
          workers = a.workers;
          serves = a.serves;
        }
      where
        high :
            IsAbove c.sizes c.peak c.limited ⊎ (heap_of c.sizes < length (items_in c.heaps.items) + length c.extract.items + count_of c.body) → count ≡ length (items_of heaps) + length c.extract.items + count_of c.body
            → length (items_of heaps) ≡ length (items_in c.heaps.items) → IsAbove c.sizes (max c.peak load) c.limited
        high (inl h) all items free = omega (arith, h free)
        high (inr h) all items free = omega (arith, h, all, items, count_is, load_is)

    -- all records are counted
    pub count_all : c.failed ≡ None → count ≡ c.count
    count_all none = omega (arith, (sound_here none).counted, (is.sound none).counted, ap (λ l. length (items_in l)) heaps_are)

    -- the numbers pay for all
    counted_here : IsCounted c.sizes.workers c.sizes.block (option_or first c.failed ≡ None) c.counts (whole_account shown c.sizes (length (items_of heaps)) c.body c.supply)
    counted_here =
        let items : length (items_in c.heaps.items) ≡ length (items_of heaps) = sym (ap (λ l. length (items_in l)) heaps_are) in
        let account : gathered_account shown c [] ≡ whole_account shown c.sizes (length (items_of heaps)) c.body c.supply =
        ap₂ (λ l k. beside k (body_account c.sizes.block l c.body)) (append-nil (slots_of shown c.body c.supply)) items
        in
        counted-sound (λ none. (or_none first c.failed none).1) (subst (λ a. IsCounted c.sizes.workers c.sizes.block (c.failed ≡ None) c.counts a) account (counted-beside is.counted))

    pub whole-rejoined : IsWhole shown cmp record_of width (parts_of c heaps count load first)
    whole-rejoined = record { queue = queue_here; sound = λ none. sound_here (or_none first c.failed none).1; no_slot = a.no_slot; slots_room = a.slots_room; counted = counted_here }
