-- A new queue: its parts are at rest.
use Rattle.std.proofs.Common.{◌≡◌, ℕ, ◌-◌, ◌*◌, ◌≤◌, List, [], ◌∷◌, ◌++◌, length, map, Option, None, Some, All, refl, sym, ap, ◌∙◌, subst, arith}
use Rattle.std.specs.Prelude.{Result, Ok, Err, OnOk, OnErr, is_err, Bool, true, false}
use Rattle.std.specs.declared.cmp.Ordering.{Ordering}
use Rattle.std.proofs.lemmas.List.Elements.{All-nil, All-weaker, All-cons, All-head, All-tail}
use Rattle.std.proofs.lemmas.List.Sums.{sum_by-cons}
use Rattle.ppq_heap.specs.ppq_record.Order.{Ascends}
use Rattle.ppq_heap.specs.Heaps.{items_of as items_in}
use Rattle.ppq_spill.specs.ppq_counts.Tally.{no_tally}
use Rattle.ppq_spill.specs.ppq_counts.Account.{IsCounted, tolls, hefts, blocks_of}
use Rattle.ppq_spill.proofs.ppq_counts.Levels.{tolls-sum, hefts-sum, blocks-sum}
use Rattle.ppq_spill.proofs.ppq_counts.Counted.{counted-none}
use Rattle.ppq_spill.specs.Storing.{in_buffers}
use Rattle.ppq_queue.specs.Paying.{whole_account}
use Rattle.ppq_extract.specs.ppq_outside.Shown.{Shown}
use Rattle.ppq_extract.specs.ppq_budget.Sizes.{Numbers, AreInRange, fixed_of, pool_of}
use Rattle.ppq_extract.specs.ppq_block.Block.{Block, holding}
use Rattle.ppq_extract.specs.ppq_array.Run.{Run, items_of}
use Rattle.ppq_extract.specs.ppq_array.External.{External, size_of, records_in}
use Rattle.ppq_extract.specs.ppq_array.Supply.{Stock, IsSlot}
use Rattle.ppq_extract.specs.ppq_array.Owner.{HasBlock}
use Rattle.ppq_extract.specs.ppq_array.Holdings.{internal_items, internal_buffers, external_buffers, external_slots}
use Rattle.ppq_extract.specs.ppq_array.Kept.{all_writes, all_reads, overread, all_overreads}
use Rattle.ppq_extract.specs.ppq_fetch.Fetching.{fronts_in, count_in}
use Rattle.ppq_extract.specs.ppq_fetch.Taking.{NoneAfter}
use Rattle.ppq_spill.specs.Body.{job_slots}
use Rattle.ppq_queue.specs.declared.parts.Parts.{Parts}
use Rattle.ppq_queue.specs.Holding.{IsNewSlot}
use Rattle.ppq_queue.specs.Slots.{with_slots}
use Rattle.ppq_queue.specs.Resting.{AtRest, IsRestingRun, IsRestingArray, slots_of, runs_bag, count_of, odd_in}
use Rattle.ppq_queue.specs.State.{IsQueue, IsSound, AreNewParts}

-- slots that were not called yet
new_writes : (bytes : ℕ) (xs : List Shown) → All (IsNewSlot bytes) xs → all_writes xs ≡ 0
new_writes bytes [] all = refl
new_writes bytes (x ∷ xs) all = omega (arith, sum_by-cons (λ (s : Shown). s.writes) x xs, (All-head (IsNewSlot bytes) x xs all).no_write, new_writes bytes xs (All-tail (IsNewSlot bytes) x xs all))

new_reads : (bytes : ℕ) (xs : List Shown) → All (IsNewSlot bytes) xs → all_reads xs ≡ 0
new_reads bytes [] all = refl
new_reads bytes (x ∷ xs) all = omega (arith, sum_by-cons (λ (s : Shown). s.reads) x xs, (All-head (IsNewSlot bytes) x xs all).no_read, new_reads bytes xs (All-tail (IsNewSlot bytes) x xs all))

new_overreads : (bytes : ℕ) (xs : List Shown) → All (IsNewSlot bytes) xs → all_overreads xs ≡ 0
new_overreads bytes [] all = refl
new_overreads bytes (x ∷ xs) all = omega (arith, sum_by-cons overread x xs, (All-head (IsNewSlot bytes) x xs all).no_read, new_overreads bytes xs (All-tail (IsNewSlot bytes) x xs all))

module _ {S R : Type 0} (shown : S → Shown) (n : Numbers) (parts : Parts S R) (is : AreNewParts n parts) (slots : List Shown) (stock : Stock) (e : stock ≡ with_slots parts.store.supply slots (parts.store.supply.slot_room - length slots)) (count : length slots ≡ n.blocks) where
  kept_is : stock.kept ≡ slots
  kept_is = ap (λ s. s.kept) e

  room_is : stock.slot_room ≡ n.blocks - length slots
  room_is = ap (λ s. s.slot_room) e ∙ ap (λ s. s.slot_room - length slots) is.supply

  block_is : stock.block ≡ n.block
  block_is = ap (λ s. s.block) e ∙ ap (λ s. s.block) is.supply

  sure_is : stock.sure_buffers ≡ pool_of n
  sure_is = ap (λ s. s.sure_buffers) e ∙ ap (λ s. s.sure_buffers) is.supply

  none_out : stock.buffer_room ≡ 0
  none_out = ap (λ s. s.buffer_room) e ∙ ap (λ s. s.buffer_room) is.supply

  -- its slots are those that came, in their order
  pub slots-opened : slots_of shown parts.store.body stock ≡ slots
  slots-opened =
      ap (λ l. external_slots shown l ++ job_slots shown parts.store.body.lanes.jobs.items ++ stock.kept) is.body.no_external ∙ ap (λ l. job_slots shown l ++ stock.kept) is.body.no_job ∙ kept_is

  internal_none : internal_buffers parts.store.body.runs.internal.items ≡ 0
  internal_none = ap internal_buffers is.body.no_internal

  external_none : external_buffers parts.store.body.runs.external.items ≡ 0
  external_none = ap external_buffers is.body.no_external

  count_none : count_of parts.store.body ≡ 0
  count_none = ap (λ l. count_in l parts.store.body.runs.external.items) is.body.no_internal ∙ ap (λ l. count_in [] l) is.body.no_external

  -- nothing was written or read, and there are no runs
  pub counted-opened : {Sound : Type 0} {bytes : ℕ} → All (IsNewSlot bytes) slots → IsCounted n.workers n.block Sound no_tally (whole_account shown n (length (items_in parts.heaps)) parts.store.body stock)
  counted-opened {Sound = Sound} {bytes = bytes} fresh =
      let body = parts.store.body in
      let level : External S R → ℕ = λ a. a.level in
      let blocks : External S R → ℕ = λ a. length a.stored in
      let written : all_writes (slots_of shown body stock) ≡ 0 = ap all_writes slots-opened ∙ new_writes bytes slots fresh in
      let read : all_reads (slots_of shown body stock) ≡ 0 = ap all_reads slots-opened ∙ new_reads bytes slots fresh in
      let memory : in_buffers body ≡ 0 = ap (λ l. length (internal_items l)) is.body.no_internal in
      let heap : length (items_in parts.heaps) ≡ 0 = ap length is.no_record in
      let owed : tolls level size_of n.block body.runs.external.items ≡ 0 = ap (tolls level size_of n.block) is.body.no_external ∙ tolls-sum level size_of n.block [] in
      let weight : hefts level size_of body.runs.external.items ≡ 0 = ap (hefts level size_of) is.body.no_external ∙ hefts-sum level size_of [] in
      let stored : blocks_of blocks body.runs.external.items ≡ 0 = ap (blocks_of blocks) is.body.no_external ∙ blocks-sum blocks [] in
      counted-none n.workers n.block Sound (whole_account shown n (length (items_in parts.heaps)) body stock) (ap (λ k. 7 * (n.block * k)) written ∙ omega arith) (omega (arith, owed, memory, heap)) weight read stored

  module _ (cmp : R → R → Ordering) (record_of : List ℕ → R) (width : ℕ) where
    rest-opened : AtRest shown cmp record_of width n parts.store.body stock
    rest-opened =
        let P : Run R → Type 0 = λ run. Ascends cmp (items_of run) in
        let Q : External S R → Type 0 = λ x. Ascends cmp (records_in record_of width shown x) in
        record {
          block = block_is;
          idle = All-weaker (λ (b : Block R). b ≡ holding n.block []) (HasBlock stock.block) (λ b h. ap (λ (x : Block R). x.block) h ∙ sym block_is) parts.store.body.lanes.idle is.body.blocks;
          internal = subst (All (IsRestingRun stock.block)) (sym is.body.no_internal) (All-nil (IsRestingRun stock.block));
          external = subst (All (IsRestingArray shown width stock.block)) (sym is.body.no_external) (All-nil (IsRestingArray shown width stock.block));
          takes_back = record { slots = omega (arith, ap (λ l. length (external_slots shown l)) is.body.no_external); buffers = omega (arith, internal_none) };
          no_job = is.body.no_job;
          batch = is.body.batch ∙ ap (λ k. n.workers * k) (sym block_is);
          buffers = omega (arith, is.body.idle, external_none);
          held = omega (arith, is.body.idle, internal_none, external_none, none_out);
          bounded = omega (arith, external_none);
          fronts = omega (arith, ap fronts_in is.body.no_external);
          few = omega (arith, ap (odd_in stock.block) is.body.no_external);
          pool = omega (arith, sure_is, none_out);
          slots = omega (arith, ap length kept_is, room_is, count);
          internal_room = is.body.internal_room;
          external_room = is.body.external_room;
          leaves = omega (arith, is.body.leaves);
          rise = λ tell. record { internal = subst (All P) (sym is.body.no_internal) (All-nil P); external = subst (All Q) (sym is.body.no_external) (All-nil Q) };
        }

    pub sound-opened : IsSound shown cmp record_of width n parts.heaps parts.store.extract parts.store.body stock parts.store.sources 0 0 false
    sound-opened =
        let none = ap (λ x. x.items) is.extract in
        record {
          rest = rest-opened;
          counted = omega (arith, ap length is.no_record, ap length none, count_none);
          ascends = λ tell. subst (Ascends cmp) (sym none) tt;
          order = λ tell. subst (λ l. NoneAfter cmp l (runs_bag shown record_of width parts.store.body)) (sym none) tt;
          above = λ more. absurd (omega arith);
          workers = is.workers;
          serves = is.serves;
        }

  pub queue-opened : {bytes : ℕ} → All (IsNewSlot bytes) slots → AreInRange n → fixed_of n ≤ n.memory → IsQueue shown n parts.heaps parts.store.extract parts.store.body stock 0 0 None
  queue-opened {bytes} fresh range budget =
      let none = ap (λ x. x.items) is.extract in
      record {
        range = range;
        budget = budget;
        cap = is.cap;
        shares = is.shares;
        in_heap = omega (arith, ap length is.no_record);
        room = ap (λ x. x.room) is.extract;
        in_extract = omega (arith, ap length none);
        held = omega (arith, is.body.idle, internal_none, external_none, none_out, ap length is.body.no_job);
        pool = omega (arith, sure_is, none_out);
        slots = ap length slots-opened ∙ count;
        overreads = ap all_overreads slots-opened ∙ new_overreads bytes slots fresh;
        no_row = ap (λ s. s.drawn) e ∙ ap (λ s. s.drawn) is.supply;
        counted = omega arith;
        most = omega arith;
        most_count = omega arith;
        fault = λ number h. absurd (no_fault number h);
      }
    where
      no_fault : (number : ℕ) → ◌≡◌ {A = Option ℕ} None (Some number) → ⊥
      no_fault number h = cc

module _ {S : Type 0} (shown : S → Shown) (bytes : ℕ) where
  -- the slots that came are those of a supply
  pub new_are_slots : (xs : List S) → All (IsNewSlot bytes) (map shown xs) → All (λ s. IsSlot bytes (shown s)) xs
  new_are_slots [] all = λ k d h. absurd (omega arith)
  new_are_slots (x ∷ xs) all =
      let first = All-head (IsNewSlot bytes) (shown x) (map shown xs) all in
      All-cons (λ s. IsSlot bytes (shown s)) x xs (record { size = first.size; spent = omega (arith, first.no_read) }) (new_are_slots xs (All-tail (IsNewSlot bytes) (shown x) (map shown xs) all))

module _ {T E : Type 0} {P : Type 0} where
  pub err_holds : (r : Result T E) (b : Bool) → b ≡ is_err r → b ≡ true → OnErr r P → P
  err_holds (Ok v) b e t p = cc
  err_holds (Err x) b e t p = p

  pub ok_holds : (r : Result T E) (b : Bool) → b ≡ is_err r → b ≡ false → OnOk r P → P
  ok_holds (Ok v) b e f p = p
  ok_holds (Err x) b e f p = cc
