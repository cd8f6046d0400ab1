-- After a batch that was merged and written, the next one may follow.
use Rattle.std.proofs.Common.{◌≡◌, ℕ, zero, suc, ◌+◌, ◌-◌, ◌*◌, ◌<◌, ◌≤◌, ◌^◌, ◌⊎◌, inl, inr, min, List, [], ◌∷◌, ◌++◌, length, sum_by, All, None, refl, sym, ap, ap₂, ◌∙◌, subst, arith, append_assoc, length-append, append-nil}
use Rattle.std.specs.Prelude.{count_by}
use Rattle.std.specs.Cmp.{IsStrictWeakOrder}
use Rattle.std.specs.declared.cmp.Ordering.{Ordering}
use Rattle.std.specs.List.{AllByRecursion as Each}
use Rattle.std.proofs.Math.Nat.{add-mul}
use Rattle.std.proofs.lemmas.List.Elements.{All-append}
use Rattle.std.proofs.lemmas.List.Sums.{sum_by-append}
use Rattle.std.proofs.lemmas.Grind.{flat_map-append}
use Rattle.ppq_fetch.specs.ppq_record.Order.{is_before, Ascends, Le}
use Rattle.ppq_fetch.specs.ppq_record.Bag.{IsSameBag}
use Rattle.ppq_fetch.proofs.ppq_record.Order.{IsSameBag-append, Each_le-same_bag, Each-append_left, Each-append_right, Each-weaker, Each-append, Rising-append}
use Rattle.ppq_fetch.specs.ppq_block.Block.{Block}
use Rattle.ppq_fetch.specs.ppq_outside.Shown.{Shown, AllTell}
use Rattle.ppq_fetch.specs.ppq_array.declared.berth.DeviceBlock.{DeviceBlock}
use Rattle.ppq_fetch.specs.ppq_array.Run.{run_of}
use Rattle.ppq_fetch.specs.ppq_array.External.{External, external, size_of, counts, records_in, block_items, blocks_items, IsPacked}
use Rattle.ppq_fetch.specs.ppq_array.Supply.{Stock}
use Rattle.ppq_fetch.specs.ppq_array.Owner.{HasBlock, HasSlot}
use Rattle.ppq_fetch.specs.ppq_array.Holdings.{external_slots, external_buffers, HasSlots, RunHasBlock}
use Rattle.ppq_fetch.specs.Fetching.{state, MayFetch, PartsKept, Fetched, source_items, blocks_in, count_in}
use Rattle.ppq_fetch.specs.Taking.{NoneAfter}
use Rattle.ppq_spill.specs.Making.{hand, hand_slots, WroteAll, Table, table, table_slots, total, loaded_count, BetweenBatches, IsRising, all_records, AllFull, AllFit}
use Rattle.ppq_spill.proofs.Parts.{hand_sum, hand_long}
use Rattle.ppq_spill.proofs.Batches.{shape_on}
use Rattle.ppq_spill.proofs.Blocks.{counts_append, counts_full, full_exact, packed_append, fewer_than}
use Rattle.ppq_spill.specs.Untold.{untold}
use Rattle.ppq_spill.proofs.Telling.{tell_sum, sum_tell, tell_part}
use Rattle.ppq_spill.proofs.Fetches.{went_fit, parts_counted}
use Rattle.ppq_spill.proofs.Merges.{table_sum}

pub zero_or : (n : ℕ) → (n ≡ 0) ⊎ (0 < n)
zero_or zero = inl refl
zero_or (suc n) = inr (omega arith)

nothing : {X : Type 0} (xs : List X) → length xs < 1 → xs ≡ []
nothing [] e = refl
nothing (x ∷ xs) e = absurd (omega (arith, e))

module _ {S R : Type 0} (shown : S → Shown) where
  -- there is room for what was taken in slots that are at hand, once its blocks were freed
  pub enough_taken :
      (width workers : ℕ) (o : Table S R) (inputs1 : List (External S R)) (idle1 : List (Block R)) (stock1 : Stock) (n : ℕ) → BetweenBatches shown width workers o
      → PartsKept shown (state [] o.inputs o.idle o.hand.stock) (state [] inputs1 idle1 stock1) → Each (λ (a : External S R). a.lifted ≡ []) inputs1 → n + count_in [] inputs1 ≡ count_in [] o.inputs
      → All (λ (a : External S R). AllFit o.hand.stock.block a.stored) inputs1 × (blocks_in inputs1 ≤ blocks_in o.inputs)
      × (size_of o.hand.made + (n + loaded_count inputs1) ≤ (length o.hand.made.stored + length o.hand.berths + length stock1.kept) * o.hand.stock.block)
  enough_taken width workers o inputs1 idle1 stock1 n ready parts lifted counted =
      let b = o.hand.stock.block in
      let fit = went_fit b o.inputs inputs1 parts.went_on ready.fit in
      let freed = blocks_in o.inputs - blocks_in inputs1 in
      let m0 = length o.hand.made.stored + length o.hand.berths + length o.hand.stock.kept in
      let kept : length stock1.kept ≡ length o.hand.stock.kept + freed = ap length parts.stock.kept ∙ (let e : length (o.hand.stock.kept ++ parts.stock.more) ≡ length o.hand.stock.kept + freed = omega (arith, length-append o.hand.stock.kept parts.stock.more, parts.stock.counted) in e) in
      let all : length o.hand.made.stored + length o.hand.berths + length stock1.kept ≡ m0 + freed = omega (arith, kept) in
      let sum : (length o.hand.made.stored + length o.hand.berths + length stock1.kept) * b ≡ m0 * b + freed * b = ap (λ k. k * b) all ∙ add-mul m0 freed b in
      let old : blocks_in o.inputs ≡ blocks_in inputs1 + freed = omega (arith, fit.1) in
      let old_sum : blocks_in o.inputs * b ≡ blocks_in inputs1 * b + freed * b = ap (λ k. k * b) old ∙ add-mul (blocks_in inputs1) freed b in (
        fit.0,
        fit.1,
        omega (arith, sum, old_sum, fit.2, ready.enough, counted, parts_counted o.inputs ready.may.none_lifted, parts_counted inputs1 lifted),
      )

  pub ready_after :
      (record_of : List ℕ → R) (width workers : ℕ) (o : Table S R) (inputs1 : List (External S R)) (idle1 idle2 : List (Block R)) (stock1 stock2 : Stock) (made2 : External S R) (berths2 : List (DeviceBlock S R)) (records : List R)
      → BetweenBatches shown width workers o → PartsKept shown (state [] o.inputs o.idle o.hand.stock) (state [] inputs1 idle1 stock1) → MayFetch shown width workers (state [] inputs1 idle1 stock1)
      → length records + count_in [] inputs1 ≡ count_in [] o.inputs → length records ≡ min (workers * o.hand.stock.block) (count_in [] o.inputs)
      → WroteAll record_of width o.hand.stock.block shown (o.hand.stock.block * width) records (hand o.hand.made o.hand.berths stock1) (hand made2 berths2 stock2)
      → length idle2 ≡ length idle1 → All (HasBlock o.hand.stock.block) idle2
      → BetweenBatches shown width workers (table inputs1 idle2 made2 berths2 stock2) × (total (table inputs1 idle2 made2 berths2 stock2) ≡ total o)
  ready_after record_of width workers o inputs1 idle1 idle2 stock1 stock2 made2 berths2 records ready parts may counted most put idle_long idle_blocks =
      let b = o.hand.stock.block in
      let blocks = put.blocks in
      let n = length records in
      let made = o.hand.made in
      let s = may.sources in
      let block1 : stock1.block ≡ b = parts.kept.block in
      let block2 : stock2.block ≡ b = put.wrote.rest.block ∙ block1 in
      let taken = enough_taken width workers o inputs1 idle1 stock1 n ready parts may.none_lifted counted in
      let stored : made2.stored ≡ made.stored ++ blocks = ap (λ a. a.stored) put.wrote.made in
      let shape : made2 ≡ external made2.level (run_of [] 0 []) [] made2.stored = shape_on ready.shape put.wrote.made in
      let size0 : size_of made ≡ counts made.stored = ap size_of ready.shape ∙ (let e : 0 + counts made.stored ≡ counts made.stored = omega arith in e) in
      let size2 : size_of made2 ≡ size_of made + n = ap size_of shape ∙ (let e : 0 + counts made2.stored ≡ size_of made + n = omega (arith, ap counts stored, counts_append b made.stored blocks, put.size, size0) in e) in
      let full_if : 0 < n → AllFull b made.stored = λ h. ready.full (omega (arith, counted, h)) in
      let none_if : n ≡ 0 → blocks ≡ [] = λ e. nothing blocks (fewer_than (length blocks) 1 b (let one : 1 * b ≡ b = omega arith in omega (arith, one, put.tight, e))) in
      let same_if : n ≡ 0 → made2.stored ≡ made.stored = λ e. stored ∙ ap (λ bs. made.stored ++ bs) (none_if e) ∙ append-nil made.stored in
      let some_if : 0 < n → 0 < length blocks = λ h. some_block blocks (omega (arith, put.size, h)) in
      let exact_if : 0 < count_in [] inputs1 → n ≡ workers * b = λ h. omega (arith, most, counted, h) in
      let packed : IsPacked b made2.stored = elim (zero_or n) as (λ _. IsPacked b made2.stored) [ inl e ↦ subst (IsPacked b) (sym (same_if e)) ready.packed | inr h ↦ subst (IsPacked b) (sym stored) (packed_append b made.stored blocks (full_if h) (some_if h) put.packed) ] in
      let tight : length made2.stored * b < size_of made2 + b = elim (zero_or n) as (λ _. length made2.stored * b < size_of made2 + b) [
        | inl e ↦ (let same : length made2.stored * b ≡ length made.stored * b = ap (λ bs. length bs * b) (same_if e) in omega (arith, same, ready.tight, size2, e))
        | inr h ↦ (let sum : length made2.stored * b ≡ length made.stored * b + length blocks * b = ap (λ bs. length bs * b) stored ∙ ap (λ k. k * b) (length-append made.stored blocks) ∙ add-mul (length made.stored) (length blocks) b in omega (arith, sum, put.tight, size2, size0, counts_full b made.stored (full_if h)))
      ] in
      let full : 0 < count_in [] inputs1 → AllFull b made2.stored = λ h.
      subst (AllFull b) (sym stored) (All-append (λ (b' : DeviceBlock S R). b'.count ≡ b) made.stored blocks (ready.full (omega (arith, counted, h))) (full_exact b blocks workers put.packed.last (put.size ∙ exact_if h) (omega (arith, put.tight, put.size)))) in
      let hands : length made2.stored + length berths2 + length stock2.kept ≡ length made.stored + length o.hand.berths + length stock1.kept =
      omega (arith, put.wrote.went.same.length, hand_long shown (hand made o.hand.berths stock1), hand_long shown (hand made2 berths2 stock2)) in
      let hands_b : (length made2.stored + length berths2 + length stock2.kept) * b ≡ (length made.stored + length o.hand.berths + length stock1.kept) * b = ap (λ k. k * b) hands in
      let enough : size_of made2 + loaded_count inputs1 ≤ (length made2.stored + length berths2 + length stock2.kept) * b = omega (arith, hands_b, taken.2, size2) in
      let same : total (table inputs1 idle2 made2 berths2 stock2) ≡ total o = omega (arith, size2, counted) in
      let room : length (external_slots shown inputs1) + length made2.stored + length berths2 ≤ stock2.slot_room = omega (arith, put.wrote.room, parts.kept.slot_room, ready.room) in
      let buffers : length idle2 + external_buffers inputs1 ≡ length o.idle + external_buffers o.inputs = omega (arith, parts.buffers, idle_long) in (
        record {
          may = record {
            sources = record {
              idle = subst (λ k. All (HasBlock k) idle2) (sym block2) idle_blocks;
              internal = λ k d h. absurd (omega arith);
              external = subst (λ k. All (HasSlots shown (k * width)) inputs1) (block1 ∙ sym block2) s.external;
              loaded = subst (λ k. All (λ (a : External S R). RunHasBlock k a.loaded) inputs1) (block1 ∙ sym block2) s.loaded;
              fitting = s.fitting;
              internal_fitting = λ k d h. absurd (omega arith);
              internal_spent = s.internal_spent;
              external_spent = s.external_spent;
              takes_back = record { slots = omega (arith, room); buffers = omega arith };
              fronts = omega (arith, s.fronts, idle_long);
              bounded = s.bounded;
              few_buffers = omega (arith, s.few_buffers, idle_long);
              few_runs = s.few_runs;
              few_records = s.few_records;
            };
            none_lifted = may.none_lifted;
          };
          some = subst (λ k. 1 ≤ k) (sym block2) ready.some;
          small = subst (λ k. k ≤ 65536) (sym block2) ready.small;
          shape = shape;
          packed = subst (λ k. IsPacked k made2.stored) (sym block2) packed;
          tight = subst (λ k. length made2.stored * k < size_of made2 + k) (sym block2) tight;
          full = λ h. subst (λ k. AllFull k made2.stored) (sym block2) (full h);
          fit = subst (λ k. All (λ (a : External S R). AllFit k a.stored) inputs1) (sym block2) taken.0;
          enough = subst (λ k. size_of made2 + loaded_count inputs1 ≤ (length made2.stored + length berths2 + length stock2.kept) * k) (sym block2) enough;
          few = subst (λ k. total (table inputs1 idle2 made2 berths2 stock2) ≤ (2 ^ 32 - 2) * k) (sym block2) (omega (arith, same, ready.few));
          sizes = subst (λ k. All (HasSlot shown (k * width)) (made2.stored ++ berths2)) (sym block2) (put.wrote.sizes ready.sizes);
          room = room;
          buffers = omega (arith, buffers, ready.buffers);
        },
        same,
      )
    where
      some_block : (cs : List (DeviceBlock S R)) → 0 < counts cs → 0 < length cs
      some_block [] h = absurd (omega (arith, h))
      some_block (c ∷ cs) h = omega arith

  -- what was taken and written stands behind what was made before, and before what is left
  pub rising_after :
      (cmp : R → R → Ordering) (record_of : List ℕ → R) (width : ℕ) (o : Table S R) (inputs1 : List (External S R)) (idle1 idle2 : List (Block R)) (stock1 stock2 : Stock) (made2 : External S R) (berths2 : List (DeviceBlock S R)) (records : List R)
      → IsStrictWeakOrder (is_before cmp) → o.hand.made ≡ external o.hand.made.level (run_of [] 0 []) [] o.hand.made.stored
      → Fetched cmp record_of width shown None (state [] o.inputs o.idle o.hand.stock) (state [] inputs1 idle1 stock1) records
      → WroteAll record_of width o.hand.stock.block shown (o.hand.stock.block * width) records (hand o.hand.made o.hand.berths stock1) (hand made2 berths2 stock2)
      → AllTell (table_slots shown o) → IsRising cmp record_of width shown o
      → IsRising cmp record_of width shown (table inputs1 idle2 made2 berths2 stock2) × IsSameBag (all_records record_of width shown o) (all_records record_of width shown (table inputs1 idle2 made2 berths2 stock2))
  rising_after cmp record_of width o inputs1 idle1 idle2 stock1 stock2 made2 berths2 records order shape got put tells rising =
      let so = state [] o.inputs o.idle o.hand.stock in
      let s1 = state [] inputs1 idle1 stock1 in
      let recs = records_in record_of width shown o.hand.made in
      let left = source_items record_of width shown so in
      let left' = source_items record_of width shown s1 in
      let sources : AllTell (external_slots shown o.inputs) = tell_part (table_slots shown o) (external_slots shown o.inputs) (omega (arith, table_sum shown untold o)) tells in
      let slots : AllTell (external_slots shown o.inputs ++ o.hand.stock.kept) = tell_part (table_slots shown o) (external_slots shown o.inputs ++ o.hand.stock.kept) (omega (arith, table_sum shown untold o, sum_by-append untold (external_slots shown o.inputs) o.hand.stock.kept)) tells in
      let slots1 = got.parts.all_tell.0 slots in
      let hands : AllTell (hand_slots shown (hand o.hand.made o.hand.berths stock1)) =
      sum_tell (hand_slots shown (hand o.hand.made o.hand.berths stock1)) (let e : sum_by untold (hand_slots shown (hand o.hand.made o.hand.berths stock1)) ≡ 0 = omega (arith, hand_sum shown untold (hand o.hand.made o.hand.berths stock1), table_sum shown untold o, tell_sum (table_slots shown o) tells, tell_sum (external_slots shown inputs1 ++ stock1.kept) slots1, sum_by-append untold (external_slots shown inputs1) stock1.kept) in e) in
      let is = got.taken sources rising.inputs in
      let shape2 : made2 ≡ external made2.level (run_of [] 0 []) [] made2.stored = shape_on shape put.wrote.made in
      let stored : made2.stored ≡ o.hand.made.stored ++ put.blocks = ap (λ a. a.stored) put.wrote.made in
      let now : records_in record_of width shown made2 ≡ recs ++ records =
      ap (records_in record_of width shown) shape2 ∙ ap (blocks_items record_of width shown) stored ∙ flat_map-append (block_items record_of width shown) o.hand.made.stored put.blocks
      ∙ ap₂ (λ (xs ys : List R). xs ++ ys) (sym (ap (records_in record_of width shown) shape)) (put.items hands) in
      let against : NoneAfter cmp recs (records ++ left') = Each_le-same_bag (is_before cmp) order recs left recs (records ++ left') (λ p. refl) is.moved rising.after in
      let first : NoneAfter cmp recs records = Each-weaker (λ x. Each (Le (is_before cmp) x) (records ++ left')) (λ x. Each (Le (is_before cmp) x) records) (λ x e. Each-append_left (Le (is_before cmp) x) records left' e) recs against in
      let second : NoneAfter cmp recs left' = Each-weaker (λ x. Each (Le (is_before cmp) x) (records ++ left')) (λ x. Each (Le (is_before cmp) x) left') (λ x e. Each-append_right (Le (is_before cmp) x) records left' e) recs against in (
        record {
          inputs = record { internal = (got.rise sources rising.inputs).internal; external = (got.rise sources rising.inputs).external };
          made = subst (Ascends cmp) (sym now) (Rising-append (is_before cmp) order recs records rising.made is.ascends first);
          after = subst (λ xs. NoneAfter cmp xs left') (sym now) (Each-append (λ x. Each (Le (is_before cmp) x) left') recs records second is.least);
        },
        (λ p. IsSameBag-append recs recs left (records ++ left') (λ q. refl) is.moved p ∙ ap (count_by p) (sym (append_assoc recs records left') ∙ ap (λ xs. xs ++ left') (sym now))),
      )
