-- One batch of a merge, and one batch after the other.
use Rattle.std.proofs.Common.{◌≡◌, ℕ, ◌+◌, ◌-◌, ◌*◌, ◌<◌, ◌≤◌, ◌^◌, inl, inr, min, List, [], ◌++◌, length, take, All, refl, sym, ap, ◌∙◌, subst, arith, length-append}
use Rattle.std.specs.Cmp.{IsStrictWeakOrder}
use Rattle.std.specs.declared.cmp.Ordering.{Ordering}
use Rattle.std.proofs.Math.Nat.{add-mul}
use Rattle.std.proofs.lemmas.Nat.{mul-le}
use Rattle.std.proofs.lemmas.List.{length-take}
use Rattle.std.proofs.lemmas.List.Elements.{length_all_zip}
use Rattle.ppq_fetch.specs.ppq_record.Order.{is_before}
use Rattle.ppq_fetch.specs.ppq_block.Block.{Block}
use Rattle.ppq_fetch.specs.ppq_outside.Shown.{Shown}
use Rattle.ppq_fetch.specs.ppq_array.declared.berth.DeviceBlock.{DeviceBlock}
use Rattle.ppq_fetch.specs.ppq_array.declared.store_fault.StoreFault.{StoreFault}
use Rattle.ppq_fetch.specs.ppq_array.declared.store_fault.StoreFault.TheVariants.{NoFreeBlock, Device}
use Rattle.ppq_fetch.specs.ppq_array.External.{External, size_of, counts}
use Rattle.ppq_fetch.specs.ppq_array.Kept.{HasFailed}
use Rattle.ppq_fetch.specs.ppq_array.Supply.{Stock}
use Rattle.ppq_fetch.specs.ppq_array.Owner.{HasBlock, HasSlot}
use Rattle.ppq_fetch.specs.Fetching.{state, WentOn, count_in}
use Rattle.ppq_fetch.specs.ppq_lane.declared.lanes.Lanes.{Lanes}
use Rattle.ppq_spill.specs.Writing.{SameBuffers}
use Rattle.ppq_spill.specs.Making.{hand, WroteAll, WroteSome, MayWrite, Table, table, table_slots, total, BetweenBatches, MayMerge, SameTools, MergedOn, MergeFailed, MergedBatch, AllFull, IsFaultOf}
use Rattle.ppq_spill.specs.Staging.{TookBatch, ReadFailed}
use Rattle.ppq_spill.proofs.Going.{each-then}
use Rattle.ppq_spill.proofs.Parts.{Wrote-none}
use Rattle.ppq_spill.proofs.Blocks.{counts_full}
use Rattle.ppq_spill.proofs.Fetches.{went_fit}
use Rattle.ppq_spill.proofs.Merges.{some_idle, tried_of, merging_of, quiet_both, each_both, Merging-none, Merging-trans}
use Rattle.ppq_spill.proofs.Readies.{zero_or, enough_taken, ready_after, rising_after}

-- a fault that is none of the first kind names a failed slot
pub fault_of : (stock : Stock) (fault : StoreFault) → (fault ≡ NoFreeBlock → ⊥) → ((number : ℕ) → fault ≡ Device number → HasFailed number stock.kept) → IsFaultOf stock fault
fault_of stock NoFreeBlock never named = never refl
fault_of stock (Device number) never named = named number refl

-- tools that are left as they were, twice
pub SameTools-trans :
    {S R : Type 0} (a b c : Lanes (DeviceBlock S R) R) (n m k p q r : ℕ) → SameTools a b n m p q → SameTools b c m k q r → SameTools a c n k p r
SameTools-trans a b c n m k p q r h i = record { jobs = i.jobs ∙ h.jobs; job_room = i.job_room ∙ h.job_room; batch = i.batch ∙ h.batch; batch_room = i.batch_room ∙ h.batch_room; workers = i.workers ∙ h.workers; same_places = i.same_places ∙ h.same_places }

module _ {S R : Type 0} (cmp : R → R → Ordering) (record_of : List ℕ → R) (width workers : ℕ) (shown : S → Shown) where
  -- no slot was called besides
  no_more : (b t : ℕ) (n : Table S R) → length n.hand.made.stored * b < t + b → (length n.hand.made.stored + 0) * b < t + b
  no_more b t n h = subst (λ k. k * b < t + b) (let e : length n.hand.made.stored ≡ length n.hand.made.stored + 0 = omega arith in e) h

  -- what was taken may be written
  pub may_write :
      (places most : ℕ) (o : Table S R) (inputs1 : List (External S R)) (idle1 : List (Block R)) (stock1 : Stock) (batch : List R) (count : ℕ) → MayMerge shown width workers places most o
      → TookBatch cmp record_of width workers shown (state [] o.inputs o.idle o.hand.stock) (state [] inputs1 idle1 stock1) batch count
      → MayWrite shown width (length (take count batch)) idle1 (hand o.hand.made o.hand.berths stock1)
  may_write places most o inputs1 idle1 stock1 batch count is took =
      let ready = is.ready in
      let got = took.taken in
      let may = took.may in
      let b = o.hand.stock.block in
      let made = o.hand.made in
      let n = length (take count batch) in
      let taken = enough_taken shown width workers o inputs1 idle1 stock1 n ready got.parts may.none_lifted got.counted in
      let long : length inputs1 ≡ 8 = sym (length_all_zip WentOn o.inputs inputs1 got.parts.went_on) ∙ is.eight in
      let size0 : size_of made ≡ counts made.stored = ap size_of ready.shape ∙ (let e : 0 + counts made.stored ≡ counts made.stored = omega arith in e) in
      let group : length made.stored + length o.hand.berths + length stock1.kept ≡ length made.stored + (length o.hand.berths + length stock1.kept) = omega arith in
      let sum : (length made.stored + length o.hand.berths + length stock1.kept) * b ≡ length made.stored * b + (length o.hand.berths + length stock1.kept) * b = ap (λ k. k * b) group ∙ add-mul (length made.stored) (length o.hand.berths + length stock1.kept) b in
      let full : 0 < n → AllFull b made.stored = λ h. ready.full (omega (arith, got.counted, h)) in
      let same : b ≡ stock1.block = sym got.parts.kept.block in
      let slots : n ≤ (length o.hand.berths + length stock1.kept) * b = elim (zero_or n) as (λ _. n ≤ (length o.hand.berths + length stock1.kept) * b) [ inl e ↦ omega (arith, e) | inr h ↦ omega (arith, taken.2, sum, size0, counts_full b made.stored (full h)) ] in
      let few : size_of made + n ≤ (2 ^ 32 - 2) * b = omega (arith, ready.few, got.counted) in
      record {
        some = omega (arith, ready.some, same);
        small = omega (arith, ready.small, same);
        idle = some_idle shown width workers (state [] inputs1 idle1 stock1) may.sources long (omega (arith, ready.buffers, got.parts.buffers)) is.worker;
        few_idle = omega (arith, may.sources.few_buffers);
        blocks = may.sources.idle;
        shape = ready.shape;
        full = λ h. subst (λ k. AllFull k made.stored) same (full h);
        slots = subst (λ k. n ≤ (length o.hand.berths + length stock1.kept) * k) same slots;
        sizes = subst (λ k. All (HasSlot shown (k * width)) (made.stored ++ o.hand.berths)) same ready.sizes;
        takes_back = omega (arith, ready.room, got.parts.kept.slot_room);
        few = subst (λ k. size_of made + n ≤ (2 ^ 32 - 2) * k) same few;
      }

  -- a batch was taken and written
  pub batch_merged :
      (places most : ℕ) (o : Table S R) (inputs1 : List (External S R)) (idle1 idle2 : List (Block R)) (stock1 stock2 : Stock) (made2 : External S R) (berths2 : List (DeviceBlock S R)) (batch : List R) (count : ℕ)
      → IsStrictWeakOrder (is_before cmp) → MayMerge shown width workers places most o → length batch ≡ most
      → TookBatch cmp record_of width workers shown (state [] o.inputs o.idle o.hand.stock) (state [] inputs1 idle1 stock1) batch count
      → WroteAll record_of width stock1.block shown (stock1.block * width) (take count batch) (hand o.hand.made o.hand.berths stock1) (hand made2 berths2 stock2)
      → SameBuffers stock1.block idle1 idle2 → MergedBatch cmp record_of width workers shown o (table inputs1 idle2 made2 berths2 stock2) count
  batch_merged places long o inputs1 idle1 idle2 stock1 stock2 made2 berths2 batch count order is long_is took put1 same =
      let records = take count batch in
      let ready = is.ready in
      let got = took.taken in
      let may = took.may in
      let n = table inputs1 idle2 made2 berths2 stock2 in
      let b = o.hand.stock.block in
      let block1 : stock1.block ≡ b = got.parts.kept.block in
      let put = subst (λ k. WroteAll record_of width k shown (k * width) records (hand o.hand.made o.hand.berths stock1) (hand made2 berths2 stock2)) block1 put1 in
      let idle_blocks = subst (λ k. All (HasBlock k) idle2) block1 same.blocks in
      let all : count ≡ min (workers * b) (count_in [] o.inputs) = took.all ∙ ap (λ k. min k (count_in [] o.inputs)) (long_is ∙ is.batch) in
      let taken_is : length records ≡ count = omega (arith, length-take count batch, took.within) in
      let most : length records ≡ min (workers * b) (count_in [] o.inputs) = taken_is ∙ all in
      let some : 1 * 1 ≤ workers * b = mul-le 1 1 workers b is.worker ready.some in
      let after = ready_after shown record_of width workers o inputs1 idle1 idle2 stock1 stock2 made2 berths2 records ready got.parts may got.counted most put same.long idle_blocks in
      let taken = enough_taken shown width workers o inputs1 idle1 stock1 (length records) ready got.parts may.none_lifted got.counted in
      let block2 : stock2.block ≡ b = put.wrote.rest.block ∙ got.parts.kept.block in
      let tight : length made2.stored * b < size_of made2 + b = subst (λ k. length made2.stored * k < size_of made2 + k) block2 after.0.tight in
      let eight : length inputs1 ≡ length o.inputs = sym (length_all_zip WentOn o.inputs inputs1 got.parts.went_on) in
      let stored : made2.stored ≡ o.hand.made.stored ++ put.blocks = ap (λ a. a.stored) put.wrote.made in
      record {
        merged = record {
          merging = merging_of shown width workers 0 o (table inputs1 idle1 o.hand.made o.hand.berths stock1) n put.blocks ready refl refl got.parts may.sources taken.1 eight (tried_of shown (b * width) (hand o.hand.made o.hand.berths stock1) n.hand put.blocks put.wrote) refl same.long idle_blocks (no_more b (total o) n (omega (arith, tight, after.1)));
          quiet = quiet_both shown o inputs1 idle1 idle2 stock1 (hand made2 berths2 stock2) got.quiet put.quiet;
          each = λ exact. omega (arith, each_both shown o inputs1 idle1 idle2 stock1 (hand made2 berths2 stock2) (length put.blocks) got.parts put.each exact, ap length stored, length-append o.hand.made.stored put.blocks);
          ready = after.0;
          same = after.1;
          rise = λ t r. (rising_after shown cmp record_of width o inputs1 idle1 idle2 stock1 stock2 made2 berths2 records order ready.shape got put t r).0;
          records = λ t r. (rising_after shown cmp record_of width o inputs1 idle1 idle2 stock1 stock2 made2 berths2 records order ready.shape got put t r).1;
        };
        count_is = omega (arith, got.counted, taken_is);
        end = λ e. omega (arith, e, all, some, got.counted, taken_is);
      }

  -- a read failed
  pub batch_not_read :
      (o : Table S R) (inputs1 : List (External S R)) (idle1 : List (Block R)) (stock1 : Stock) (fault : StoreFault)
      → BetweenBatches shown width workers o → ReadFailed shown width workers (state [] o.inputs o.idle o.hand.stock) (state [] inputs1 idle1 stock1) fault
      → MergeFailed shown width o (table inputs1 idle1 o.hand.made o.hand.berths stock1) fault
  batch_not_read o inputs1 idle1 stock1 fault ready is =
      let parts = is.parts in
      let sources = is.sources in
      let h = table inputs1 idle1 o.hand.made o.hand.berths stock1 in
      let b = o.hand.stock.block in
      let fit = went_fit b o.inputs inputs1 parts.went_on ready.fit in
      let eight : length inputs1 ≡ length o.inputs = sym (length_all_zip WentOn o.inputs inputs1 parts.went_on) in
      record {
        later = 0;
        merging = merging_of shown width workers 0 o h h [] ready refl refl parts sources fit.1 eight (tried_of shown (b * width) h.hand h.hand [] (Wrote-none shown (b * width) h.hand)) refl refl (subst (λ k. All (HasBlock k) idle1) parts.kept.block sources.idle) (no_more b (total o) h (omega (arith, ready.tight)));
        failed = is.failed;
      }

  -- a write failed
  pub batch_not_written :
      (o : Table S R) (inputs1 : List (External S R)) (idle1 idle2 : List (Block R)) (stock1 stock2 : Stock) (made2 : External S R) (berths2 : List (DeviceBlock S R)) (batch : List R) (count : ℕ) (fault : StoreFault)
      → BetweenBatches shown width workers o → TookBatch cmp record_of width workers shown (state [] o.inputs o.idle o.hand.stock) (state [] inputs1 idle1 stock1) batch count
      → WroteSome shown stock1.block (stock1.block * width) (take count batch) (hand o.hand.made o.hand.berths stock1) (hand made2 berths2 stock2) fault
      → SameBuffers stock1.block idle1 idle2 → MergeFailed shown width o (table inputs1 idle2 made2 berths2 stock2) fault
  batch_not_written o inputs1 idle1 idle2 stock1 stock2 made2 berths2 batch count fault ready took put1 same =
      let records = take count batch in
      let got = took.taken in
      let may = took.may in
      let block1 : stock1.block ≡ o.hand.stock.block = got.parts.kept.block in
      let put = subst (λ k. WroteSome shown k (k * width) records (hand o.hand.made o.hand.berths stock1) (hand made2 berths2 stock2) fault) block1 put1 in
      let idle_blocks = subst (λ k. All (HasBlock k) idle2) block1 same.blocks in
      let idle_long = same.long in
      let n = table inputs1 idle2 made2 berths2 stock2 in
      let b = o.hand.stock.block in
      let made = o.hand.made in
      let taken = enough_taken shown width workers o inputs1 idle1 stock1 (length records) ready got.parts may.none_lifted got.counted in
      let eight : length inputs1 ≡ length o.inputs = sym (length_all_zip WentOn o.inputs inputs1 got.parts.went_on) in
      let stored : made2.stored ≡ made.stored ++ put.blocks = ap (λ a. a.stored) put.wrote.made in
      let sum : length made2.stored * b ≡ length made.stored * b + length put.blocks * b = ap (λ bs. length bs * b) stored ∙ ap (λ k. k * b) (length-append made.stored put.blocks) ∙ add-mul (length made.stored) (length put.blocks) b in
      let size0 : size_of made ≡ counts made.stored = ap size_of ready.shape ∙ (let e : 0 + counts made.stored ≡ counts made.stored = omega arith in e) in
      let few : length made2.stored * b < total o + b = elim (zero_or (length records)) as (λ _. length made2.stored * b < total o + b) [
        | inl e ↦ omega (arith, sum, put.few, e, ready.tight)
        | inr h ↦ omega (arith, sum, put.few, size0, got.counted, ready.some, counts_full b made.stored (ready.full (omega (arith, got.counted, h))))
      ] in
      record {
        later = 0;
        merging = merging_of shown width workers 0 o (table inputs1 idle1 o.hand.made o.hand.berths stock1) n put.blocks ready refl refl got.parts may.sources taken.1 eight (tried_of shown (b * width) (hand o.hand.made o.hand.berths stock1) n.hand put.blocks put.wrote) refl idle_long idle_blocks (no_more b (total o) n few);
        failed = put.failed;
      }

  pub MergedOn-none : (o : Table S R) → BetweenBatches shown width workers o → MergedOn cmp record_of width workers shown o o
  MergedOn-none o ready = record { merging = Merging-none shown width workers o ready; quiet = refl; each = λ exact. omega arith; ready = ready; same = refl; rise = λ t r. r; records = λ t r p. refl }

  pub MergedOn-trans : (o h n : Table S R) → MergedOn cmp record_of width workers shown o h → MergedOn cmp record_of width workers shown h n → MergedOn cmp record_of width workers shown o n
  MergedOn-trans o h n a b =
      record {
        merging = Merging-trans shown width 0 o h n a.merging a.same b.merging;
        quiet = b.quiet ∙ a.quiet;
        each = λ exact. omega (arith, each-then (length h.hand.made.stored - length o.hand.made.stored) (length n.hand.made.stored - length h.hand.made.stored) (table_slots shown o) (table_slots shown h) (table_slots shown n) a.each b.each exact);
        ready = b.ready;
        same = b.same ∙ a.same;
        rise = λ t r. b.rise (a.merging.went.tells.0 t) (a.rise t r);
        records = λ t r p. a.records t r p ∙ b.records (a.merging.went.tells.0 t) (a.rise t r) p;
      }

  pub MergeFailed-trans : (o h n : Table S R) (fault : StoreFault) → MergedOn cmp record_of width workers shown o h → MergeFailed shown width h n fault → MergeFailed shown width o n fault
  MergeFailed-trans o h n fault a b = record { later = b.later; merging = Merging-trans shown width b.later o h n a.merging a.same b.merging; failed = b.failed }
