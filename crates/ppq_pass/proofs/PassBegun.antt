-- A pass that begins.
use Rattle.std.proofs.Common.{◌≡◌, ℕ, ◌+◌, ◌*◌, ◌/◌, ◌<◌, ◌≤◌, false, List, [], ◌++◌, length, sum_by, All, Option, None, refl, sym, ap, ap₂, ◌∙◌, subst, arith}
use Rattle.std.specs.Prelude.{vec_capacity}
use Rattle.std.specs.declared.cmp.Ordering.{Ordering}
use Rattle.std.proofs.lemmas.List.Elements.{All-nil}
use Rattle.ppq_pool.specs.ppq_table.Sums.{times}
use Rattle.ppq_extract.specs.ppq_outside.Shown.{Shown}
use Rattle.ppq_pool.specs.ppq_record.Order.{Ascends}
use Rattle.ppq_extract.specs.ppq_budget.Sizes.{Numbers, AreInRange, heap_of, pool_of}
use Rattle.ppq_heap.specs.Heap.{Contents}
use Rattle.ppq_extract.specs.ppq_array.declared.berth.DeviceBlock.{DeviceBlock}
use Rattle.ppq_extract.specs.ppq_array.Run.{Run, items_of}
use Rattle.ppq_extract.specs.ppq_array.External.{External, size_of, records_in}
use Rattle.ppq_extract.specs.ppq_array.Owner.{HasBlock, HasSlot, slots_shown}
use Rattle.ppq_extract.specs.ppq_array.Kept.{SameSlots, all_faults, all_writes, all_reads}
use Rattle.ppq_extract.specs.ppq_array.Holdings.{internal_items, internal_buffers, external_slots, external_buffers, RunHasBlock, HasSlots}
use Rattle.ppq_extract.specs.ppq_fetch.Fetching.{count_in}
use Rattle.ppq_spill.specs.ppq_counts.Tally.{tally}
use Rattle.ppq_spill.specs.ppq_counts.Account.{IsCountedFrom, tolls, hefts, blocks_of}
use Rattle.ppq_spill.proofs.ppq_counts.Levels.{tolls-sum, hefts-sum, blocks-sum}
use Rattle.ppq_spill.proofs.ppq_counts.Passed.{from-none}
use Rattle.ppq_spill.specs.Body.{IsNewBody, job_slots}
use Rattle.ppq_spill.specs.Storing.{in_buffers}
use Rattle.ppq_spill.specs.declared.body.PassBody.{PassBody}
use Rattle.ppq_spill.specs.Untold.{untold}
use Rattle.ppq_spill.proofs.SameSlots.{SameSlots-refl}
use Rattle.ppq_pool.specs.Seats.{count_of}
use Rattle.ppq_pass.specs.declared.parts.PassParts.{PassParts}
use Rattle.ppq_pass.specs.Passing.{IsPass, items_at}
use Rattle.ppq_pass.specs.Passed.{slots_of}
use Rattle.ppq_pass.specs.PassState.{IsPassed, IsSoundPass, IsPassCounted, IsPassRun, IsPassArray, pass_account, shared_of, drawn_of}

module _ {S R : Type 0} (shown : S → Shown) (cmp : R → R → Ordering) (record_of : List ℕ → R) (width : ℕ) (n : Numbers) (heap : Contents R) (body : PassBody S R) (p : PassParts S R)
    (range : AreInRange n) (new : IsNewBody n.block (pool_of n / n.heap + 1) (n.blocks / n.heap + 1) body) (block : p.block ≡ n.block) (stash : p.stash ≡ []) (dry : p.dry ≡ 0) (scant : p.scant ≡ 0) (undrawn : p.row_seat.hand.places ≡ []) (slots : length p.row_seat.hand.items ≤ n.blocks)
    (bytes : All (HasSlot shown (n.block * width)) p.row_seat.hand.items) (untaken : p.pool_seat.hand.numbers ≡ []) (shape : 0 < count_of p.pool_seat.pool → p.pool_seat.hand.shape ≡ n.block) (numbers : p.numbers.items ≡ []) (room : count_of p.pool_seat.pool ≤ vec_capacity p.numbers)
  where
    new_supply : IsPass shown width (shared_of p) p.row_seat p.pool_seat p.stash p.numbers p.block p.dry p.scant
    new_supply =
        record {
          row = refl;
          items = subst (λ b. All (HasSlot shown (b * width)) p.row_seat.hand.items) (sym block) bytes;
          few = omega (arith, slots, range.blocks);
          drawn = subst (All (λ k. k < length p.row_seat.hand.items)) (sym undrawn) (All-nil (λ k. k < length p.row_seat.hand.items));
          once = λ k _. omega (arith, ap length undrawn);
          stash_fits = omega (arith, ap length stash);
          stash_sizes = subst (All (HasSlot shown (p.block * width))) (sym stash) (All-nil (HasSlot shown (p.block * width)));
          pool = refl;
          shape = λ some. shape some ∙ sym block;
          numbers_are = numbers ∙ sym untaken;
          below = subst (All (λ i. i < count_of p.pool_seat.pool)) (sym numbers) (All-nil (λ i. i < count_of p.pool_seat.pool));
          each_once = λ i. (let none : times i p.numbers.items ≡ 0 = ap (times i) numbers in omega (arith, none));
          room = room;
          ended = λ some. absurd (omega (arith, some, dry));
          looked = let none : p.scant * count_of p.pool_seat.pool ≡ 0 * count_of p.pool_seat.pool = ap (λ k. k * count_of p.pool_seat.pool) scant in omega (arith, none);
        }

    no_drawn : drawn_of shown p ≡ []
    no_drawn = ap (λ ps. slots_shown shown (items_at p.row_seat.hand.items ps)) undrawn

    no_slots : slots_of shown body p ≡ []
    no_slots =
        ap₂ (λ (xs : List (External S R)) (ys : List (DeviceBlock S R)). external_slots shown xs ++ job_slots shown body.lanes.jobs.items ++ slots_shown shown ys) new.no_external stash
        ∙ ap (λ jobs. job_slots shown jobs ++ []) new.no_job

    pub new_passed : heap.cap ≡ heap_of n → length heap.items ≤ heap.cap → count_of p.pool_seat.pool ≤ pool_of n → IsPassed shown width n heap body p false None
    new_passed cap within few =
        record {
          range = range;
          supply = new_supply;
          block = block;
          cap = cap;
          in_heap = omega (arith, cap, within);
          few_buffers = few;
          few_slots = slots;
          slots = subst (λ (xs : List Shown). SameSlots (drawn_of shown p) xs) (no_drawn ∙ sym no_slots) (SameSlots-refl (drawn_of shown p));
          untold = ap (λ (xs : List Shown). sum_by untold xs) (no_drawn ∙ sym no_slots);
          writes = omega (arith, ap all_writes (no_drawn ∙ sym no_slots));
          buffers = omega (arith, ap internal_buffers new.no_internal, ap external_buffers new.no_external, new.two, ap length new.no_job, ap length numbers);
          size = record {
            some = omega (arith, block, range.two_records);
            small = omega (arith, block, range.block);
            idle = subst (λ b. All (HasBlock b) body.lanes.idle) (sym block) new.blocks;
            internal = subst (All (RunHasBlock p.block)) (sym new.no_internal) (All-nil (RunHasBlock p.block));
            external = subst (All (HasSlots shown (p.block * width))) (sym new.no_external) (All-nil (HasSlots shown (p.block * width)));
          };
          takes_back = record {
            slots = omega (arith, ap (λ xs. length (external_slots shown xs)) new.no_external);
            buffers = omega (arith, ap internal_buffers new.no_internal);
          };
          no_job = new.no_job;
          two = new.two;
          internal_room = omega (arith, new.internal_room);
          external_room = omega (arith, new.external_room);
          leaves = omega (arith, new.leaves);
          ended = λ r. cc;
          fault = λ k h. cc;
        }

    pub new_sound : (begun : ℕ) → begun ≡ length heap.items → IsSoundPass shown cmp record_of width n heap body p begun 0 false
    new_sound begun counted =
        let none : count_in body.runs.internal.items body.runs.external.items ≡ 0 = ap₂ (λ (xs : List (Run R)) (ys : List (External S R)). count_in xs ys) new.no_internal new.no_external in
        let empty : length p.stash * n.block ≡ 0 * n.block = ap (λ (xs : List (DeviceBlock S R)). length xs * n.block) stash in
        record {
          quiet = ap all_faults (no_slots ∙ sym no_drawn);
          internal = subst (All (IsPassRun n.block (heap_of n))) (sym new.no_internal) (All-nil (IsPassRun n.block (heap_of n)));
          external = subst (All (IsPassArray shown width n.block (heap_of n))) (sym new.no_external) (All-nil (IsPassArray shown width n.block (heap_of n)));
          ascend = subst (All (λ (run : Run R). Ascends cmp (items_of run))) (sym new.no_internal) (All-nil (λ (run : Run R). Ascends cmp (items_of run)));
          rise = λ _. subst (All (λ (a : External S R). Ascends cmp (records_in record_of width shown a))) (sym new.no_external) (All-nil (λ (a : External S R). Ascends cmp (records_in record_of width shown a)));
          counted = omega (arith, none, counted);
          some = λ h. absurd (omega (arith, h, none));
          stash = omega (arith, empty);
          whole = λ r. cc;
        }

    -- it paid for nothing yet, and had the records of its heap in the beginning
    pub new_counted : (begun : ℕ) → begun ≡ length heap.items → (failed : Option ℕ) → IsPassCounted shown n heap body p begun 0 0 failed
    new_counted begun counted failed =
        let memory : in_buffers body ≡ 0 = ap (λ (xs : List (Run R)). length (internal_items xs)) new.no_internal in
        let level : External S R → ℕ = λ a. a.level in
        let blocks : External S R → ℕ = λ a. length a.stored in
        let owed : tolls level size_of n.block body.runs.external.items ≡ 0 = ap (tolls level size_of n.block) new.no_external ∙ tolls-sum level size_of n.block [] in
        let weight : hefts level size_of body.runs.external.items ≡ 0 = ap (hefts level size_of) new.no_external ∙ hefts-sum level size_of [] in
        let stored : blocks_of blocks body.runs.external.items ≡ 0 = ap (blocks_of blocks) new.no_external ∙ blocks-sum blocks [] in
        let writes : all_writes (slots_of shown body p) ≡ 0 = ap all_writes no_slots in
        let written : 7 * (n.block * all_writes (slots_of shown body p)) ≡ 0 = ap (λ k. 7 * (n.block * k)) writes ∙ (omega arith) in
        let reads : all_reads (slots_of shown body p) ≡ 0 = ap all_reads no_slots in
        let is = from-none n.workers n.block begun (failed ≡ None) (pass_account shown n heap body p) written (omega (arith, owed, memory, counted)) weight reads stored in
        subst (λ (ds : List Shown). IsCountedFrom n.workers n.block begun (all_writes ds) (all_reads ds) (failed ≡ None) (tally 0 0 0) (pass_account shown n heap body p)) (sym no_drawn) is
