-- One more block of merged records is written.
use Rattle.std.proofs.Common.{◌≡◌, ℕ, suc, ◌+◌, ◌-◌, ◌*◌, ◌<◌, ◌≤◌, List, [], ◌∷◌, ◌++◌, length, take, map, min, All, zero, refl, sym, ap, ◌∙◌, subst, arith, append_assoc, length-append, append-nil}
use Rattle.std.proofs.lemmas.List.{map-append, take-append-le}
use Rattle.std.proofs.lemmas.List.Concat.{flat_map-cons}
use Rattle.std.proofs.lemmas.Grind.{flat_map-append}
use Rattle.std.proofs.lemmas.List.Sums.{sum_by-cons, sum_by-append}
use Rattle.std.proofs.lemmas.List.Elements.{All-cons, All-head, All-tail, All-push, All-append}
use Rattle.std.proofs.Math.Nat.{suc-mul}
use Rattle.std.specs.Cmp.{IsStrictWeakOrder}
use Rattle.std.specs.declared.cmp.Ordering.{Ordering}
use Rattle.std.specs.List.{AllZip, AllByRecursion as Each}
use Rattle.std.specs.Prelude.{count_by}
use Rattle.ppq_fetch.specs.ppq_record.Order.{is_before, Ascends, Le}
use Rattle.ppq_fetch.specs.ppq_record.Bag.{IsSameBag}
use Rattle.ppq_fetch.proofs.ppq_record.Order.{IsSameBag-length, IsSameBag-append, Each_le-same_bag, Each-append_left, Each-append_right, Each-weaker, Each-append, Rising-append}
use Rattle.ppq_fetch.specs.ppq_outside.Shown.{Shown, Tells, AllTell}
use Rattle.ppq_fetch.specs.ppq_array.declared.berth.DeviceBlock.{DeviceBlock}
use Rattle.ppq_fetch.specs.ppq_array.Run.{Run, run_of, buffers_of}
use Rattle.ppq_fetch.specs.ppq_array.External.{External, external, size_of, counts, records_in, blocks_items, block_items, IsPacked}
use Rattle.ppq_fetch.specs.ppq_array.Owner.{slots_shown, HasSlot}
use Rattle.ppq_fetch.specs.ppq_array.Kept.{AreQuiet, MoreWrites}
use Rattle.ppq_fetch.proofs.ppq_array.Noted.{all_left, all_right, take_whole}
use Rattle.ppq_fetch.specs.Taking.{NoneAfter}
use Rattle.ppq_spill.specs.Writing.{Grew, WroteWell, WroteFront, MergedOut, BlockStored, BlockFailed, WriteFailed, Writing, left_in}
use Rattle.ppq_spill.specs.Went.{WentWriting, AtLeast}
use Rattle.ppq_spill.proofs.Going.{WentWriting-refl, WentWriting-more, WentWriting-weaker, quiet_more, each-none, each_more}
use Rattle.ppq_spill.proofs.Keeping.{slots_long}
use Rattle.ppq_spill.proofs.Written.{grown_slot}

zip_push : {X Y : Type 0} (P : X → Y → Type 0) (xs : List X) (ys : List Y) (x : X) (y : Y) → AllZip P xs ys → P x y → AllZip P (xs ++ x ∷ []) (ys ++ y ∷ [])
zip_push P [] [] x y zip one = (one, tt)
zip_push P [] (b ∷ ys) x y zip one = absurd zip
zip_push P (a ∷ xs) [] x y zip one = absurd zip
zip_push P (a ∷ xs) (b ∷ ys) x y zip one = (zip.0, zip_push P xs ys x y zip.1 one)

-- one more slot was written, the next one
pub front_more : (slots now : List Shown) (before last : Shown) (left : List Shown) → WroteFront slots now (before ∷ left) → WroteWell before last → WroteFront slots (now ++ last ∷ []) left
front_more slots now before last left is one = record {
  front = is.front ++ before ∷ [];
  order = is.order ∙ sym (append_assoc is.front (before ∷ []) left);
  well = zip_push WroteWell is.front now before last is.well one;
}

module _ {S R : Type 0} (cmp : R → R → Ordering) (record_of : List ℕ → R) (width block : ℕ) (shown : S → Shown) where
  abbrev now_records : External S R → List R
  now_records a = records_in record_of width shown a

  records_more : (stored : List (DeviceBlock S R)) (last : DeviceBlock S R) (out : List R) → block_items record_of width shown last ≡ out
      → records_in record_of width shown (external 0 (run_of [] 0 []) [] (stored ++ last ∷ [])) ≡ records_in record_of width shown (external 0 (run_of [] 0 []) [] stored) ++ out
  records_more stored last out e =
      flat_map-append (block_items record_of width shown) stored (last ∷ [])
      ∙ ap (λ xs. blocks_items record_of width shown stored ++ xs) (flat_map-cons (block_items record_of width shown) last [] ∙ append-nil (block_items record_of width shown last) ∙ e)

  pub Writing-none :
      (slots : List (DeviceBlock S R)) (runs : List (Run R)) (rest : List R) (array : External S R) → array ≡ external 0 (run_of [] 0 []) [] []
      → All (HasSlot shown (block * width)) slots → length (left_in runs rest) ≤ length slots * block → length slots * block < length (left_in runs rest) + block
      → Writing cmp record_of width block shown slots runs rest slots runs rest array
  Writing-none slots runs rest array e sizes room least =
      let none : array.stored ≡ [] = ap (λ a. a.stored) e in
      record {
        sizes = subst (λ bs. All (HasSlot shown (block * width)) (bs ++ slots)) (sym none) sizes;
        shape = e ∙ ap (λ bs. external 0 (run_of [] 0 []) [] bs) (sym none);
        size = ap (λ a. size_of a + length (left_in runs rest)) e ∙ (let z : 0 + 0 + length (left_in runs rest) ≡ length (left_in runs rest) = omega arith in z);
        room = room;
        least = λ some. least;
        buffers = refl;
        written = subst (λ bs. All (λ (b : DeviceBlock S R). 1 ≤ (shown b.slot).writes) bs) (sym none) (λ k d h. absurd (omega arith));
        in_order = record { front = []; order = refl; well = subst (λ (bs : List (DeviceBlock S R)). AllZip WroteWell [] (slots_shown shown bs)) (sym none) tt };
        went = subst (λ bs. WentWriting (length bs) (slots_shown shown slots) (slots_shown shown bs ++ slots_shown shown slots)) (sym none) (WentWriting-refl (slots_shown shown slots));
        quiet = subst (λ bs. AreQuiet (slots_shown shown slots) (slots_shown shown bs ++ slots_shown shown slots)) (sym none) refl;
        each = subst (λ bs. AtLeast (length bs) (slots_shown shown slots) (slots_shown shown bs ++ slots_shown shown slots)) (sym none) (each-none (slots_shown shown slots));
        full = λ some. subst (λ bs. All (λ (b : DeviceBlock S R). b.count ≡ block) bs) (sym none) (λ k d h. absurd (omega arith));
        packed = subst (IsPacked block) (sym none) (record { full = λ k d h. absurd (omega arith); last = λ k d h. absurd (omega arith) });
        tells = λ t. t;
        ascends = λ t up. (up, subst (λ a. Ascends cmp (now_records a)) (sym e) tt, subst (λ a. NoneAfter cmp (now_records a) (left_in runs rest)) (sym e) tt);
        records = λ t. subst (λ a. IsSameBag (left_in runs rest) (now_records a ++ left_in runs rest)) (sym e) (λ p. refl);
      }

  pub Writing-more :
      IsStrictWeakOrder (is_before cmp) → 1 ≤ block
      → (slots0 : List (DeviceBlock S R)) (runs0 : List (Run R)) (rest0 : List R) (b : DeviceBlock S R) (slots : List (DeviceBlock S R)) (runs runs' : List (Run R)) (rest rest' out : List R) (array array' : External S R)
      → Writing cmp record_of width block shown slots0 runs0 rest0 (b ∷ slots) runs rest array → MergedOut cmp block runs runs' rest rest' out → BlockStored record_of width shown b.slot out array array'
      → Writing cmp record_of width block shown slots0 runs0 rest0 slots runs' rest' array'
  Writing-more o some slots0 runs0 rest0 b slots runs runs' rest rest' out array array' is merged put =
      let left = left_in runs rest in
      let left' = left_in runs' rest' in
      let stored = array.stored in
      let last = put.last in
      let shape : array' ≡ external 0 (run_of [] 0 []) [] (stored ++ last ∷ []) = put.run ∙ ap (λ a. external a.level a.loaded [] (stored ++ last ∷ [])) is.shape in
      let blocks : array'.stored ≡ stored ++ last ∷ [] = ap (λ a. a.stored) shape in
      let sum : length left ≡ length out + length left' = IsSameBag-length left (out ++ left') merged.bag ∙ length-append out left' in
      let more : suc (length slots) * block ≡ length slots * block + block = suc-mul (length slots) block in
      let size' : size_of array' ≡ size_of array + length out =
      ap size_of shape ∙ (let e : 0 + counts (stored ++ last ∷ []) ≡ 0 + counts stored + length out = omega (arith, sum_by-append (λ (b : DeviceBlock S R). b.count) stored (last ∷ []), sum_by-cons (λ (b : DeviceBlock S R). b.count) last [], put.count) in e) ∙ ap (λ a. size_of a + length out) (sym is.shape) in
      let told : AllTell (slots_shown shown slots0) → Tells (shown b.slot) = λ t. All-head Tells (shown b.slot) (slots_shown shown slots) (is.tells t) in
      let records' : AllTell (slots_shown shown slots0) → now_records array' ≡ now_records array ++ out =
      λ t. ap now_records shape ∙ records_more stored last out (put.items_are (told t)) ∙ ap (λ a. now_records a ++ out) (sym is.shape) in
      record {
        sizes = sizes_more stored b last slots put.grew is.sizes blocks;
        shape = shape ∙ ap (λ bs. external 0 (run_of [] 0 []) [] bs) (sym blocks);
        size = omega (arith, is.size, size', sum);
        room = omega (arith, is.room, more, sum, merged.count);
        least = λ h. omega (arith, is.least (omega arith), more, sum, merged.count, at_least block (length slots) h);
        buffers = merged.buffers ∙ is.buffers;
        written = subst (λ bs. All (λ (b : DeviceBlock S R). 1 ≤ (shown b.slot).writes) bs) (sym blocks) (All-push (λ (b : DeviceBlock S R). 1 ≤ (shown b.slot).writes) stored last is.written put.written);
        in_order = subst (λ (xs : List Shown). WroteFront (slots_shown shown slots0) xs (slots_shown shown slots))
            (sym (ap (slots_shown shown) blocks ∙ map-append (λ (b : DeviceBlock S R). shown b.slot) stored (last ∷ [])))
            (front_more (slots_shown shown slots0) (slots_shown shown stored) (shown b.slot) (shown last.slot) (slots_shown shown slots) is.in_order put.well);
        went = went_more slots0 stored b last slots put.grew put.transfers is.went blocks;
        quiet = subst (AreQuiet (slots_shown shown slots0)) (shown_more stored last slots blocks) (quiet_more (slots_shown shown slots0) (slots_shown shown stored) (slots_shown shown slots) (shown b.slot) (shown last.slot) is.quiet put.well.quiet);
        each = least_more slots0 stored b last slots put.each is.each blocks;
        full = λ h. subst (All IsFull) (sym blocks) (All-push IsFull stored last (is.full (omega arith)) (omega (arith, is.least (omega arith), more, sum, merged.count, at_least block (length slots) h, put.count)));
        packed = subst (IsPacked block) (sym blocks) (record {
          full = subst (All IsFull) (sym (but_last stored last)) (is.full (omega arith));
          last = All-push Fits stored last is.packed.last (omega (arith, put.count, merged.count));
        });
        tells = λ t. All-tail Tells (shown b.slot) (slots_shown shown slots) (is.tells t);
        ascends = λ t up.
            let before = is.ascends t up in
            let here = merged.ascends before.0 in
            let recs = now_records array in
            let against : NoneAfter cmp recs (out ++ left') = Each_le-same_bag (is_before cmp) o recs left recs (out ++ left') (λ p. refl) merged.bag before.2 in
            let first : NoneAfter cmp recs out = Each-weaker (λ x. Each (Le (is_before cmp) x) (out ++ left')) (λ x. Each (Le (is_before cmp) x) out) (λ x e. Each-append_left (Le (is_before cmp) x) out left' e) recs against in
            let second : NoneAfter cmp recs left' = Each-weaker (λ x. Each (Le (is_before cmp) x) (out ++ left')) (λ x. Each (Le (is_before cmp) x) left') (λ x e. Each-append_right (Le (is_before cmp) x) out left' e) recs against in (
              here.2,
              subst (Ascends cmp) (sym (records' t)) (Rising-append (is_before cmp) o recs out before.1 here.0 first),
              subst (λ xs. NoneAfter cmp xs left') (sym (records' t)) (Each-append (λ x. Each (Le (is_before cmp) x) left') recs out second here.1),
            );
        records = λ t.
            let recs = now_records array in
            λ p. is.records t p ∙ IsSameBag-append recs recs left (out ++ left') (λ q. refl) merged.bag p ∙ ap (count_by p) (sym (append_assoc recs out left') ∙ ap (λ xs. xs ++ left') (sym (records' t)));
      }
    where
      IsFull : DeviceBlock S R → Type 0
      IsFull b = b.count ≡ block

      Fits : DeviceBlock S R → Type 0
      Fits b = b.count ≤ block

      but_last : {X : Type 0} (xs : List X) (x : X) → take (length (xs ++ x ∷ []) - 1) (xs ++ x ∷ []) ≡ xs
      but_last xs x =
          let n : length (xs ++ x ∷ []) - 1 ≡ length xs = omega (arith, length-append xs (x ∷ [])) in
          ap (λ k. take k (xs ++ x ∷ [])) n ∙ take-append-le (length xs) xs (x ∷ []) (omega arith) ∙ take_whole xs

      at_least : (b k : ℕ) → 0 < k → b ≤ k * b
      at_least b zero h = absurd (omega arith)
      at_least b (suc k) h = omega (arith, suc-mul k b)

      shown_more :
          (stored : List (DeviceBlock S R)) (last : DeviceBlock S R) (slots : List (DeviceBlock S R)) {stored' : List (DeviceBlock S R)} → stored' ≡ stored ++ last ∷ []
          → slots_shown shown stored ++ shown last.slot ∷ slots_shown shown slots ≡ slots_shown shown stored' ++ slots_shown shown slots
      shown_more stored last slots {stored'} e =
          sym (ap (λ bs. slots_shown shown bs ++ slots_shown shown slots) e ∙ ap (λ xs. xs ++ slots_shown shown slots) (map-append (λ (b : DeviceBlock S R). shown b.slot) stored (last ∷ [])) ∙ append_assoc (slots_shown shown stored) (shown last.slot ∷ []) (slots_shown shown slots))

      went_more :
          (slots0 stored : List (DeviceBlock S R)) (b last : DeviceBlock S R) (slots : List (DeviceBlock S R)) → Grew (shown b.slot) (shown last.slot) → MoreWrites 1 (shown b.slot ∷ []) (shown last.slot ∷ []) → WentWriting (length stored) (slots_shown shown slots0) (slots_shown shown stored ++ slots_shown shown (b ∷ slots)) → {stored' : List (DeviceBlock S R)} → stored' ≡ stored ++ last ∷ []
          → WentWriting (length stored') (slots_shown shown slots0) (slots_shown shown stored' ++ slots_shown shown slots)
      went_more slots0 stored b last slots grew one before {stored'} e =
          let long : length stored' ≡ length stored + 1 = ap length e ∙ length-append stored (last ∷ []) in
          subst (WentWriting (length stored') (slots_shown shown slots0)) (shown_more stored last slots e)
          (WentWriting-more (slots_shown shown slots0) (slots_shown shown stored) (slots_shown shown slots) (shown b.slot) (shown last.slot) (length stored) 1 (length stored') before grew one long)

      least_more :
          (slots0 stored : List (DeviceBlock S R)) (b last : DeviceBlock S R) (slots : List (DeviceBlock S R)) → AtLeast 1 (shown b.slot ∷ []) (shown last.slot ∷ []) → AtLeast (length stored) (slots_shown shown slots0) (slots_shown shown stored ++ slots_shown shown (b ∷ slots))
          → {stored' : List (DeviceBlock S R)} → stored' ≡ stored ++ last ∷ [] → AtLeast (length stored') (slots_shown shown slots0) (slots_shown shown stored' ++ slots_shown shown slots)
      least_more slots0 stored b last slots one before {stored'} e =
          let long : length stored' ≡ length stored + 1 = ap length e ∙ length-append stored (last ∷ []) in
          subst (λ n. AtLeast n (slots_shown shown slots0) (slots_shown shown stored' ++ slots_shown shown slots)) (sym long)
          (subst (AtLeast (length stored + 1) (slots_shown shown slots0)) (shown_more stored last slots e)
          (each_more (slots_shown shown slots0) (slots_shown shown stored) (slots_shown shown slots) (shown b.slot) (shown last.slot) (length stored) before one))

      sizes_more :
          (stored : List (DeviceBlock S R)) (b last : DeviceBlock S R) (slots : List (DeviceBlock S R)) → Grew (shown b.slot) (shown last.slot) → All (HasSlot shown (block * width)) (stored ++ b ∷ slots) → {stored' : List (DeviceBlock S R)} → stored' ≡ stored ++ last ∷ []
          → All (HasSlot shown (block * width)) (stored' ++ slots)
      sizes_more stored b last slots grew sizes {stored'} e =
          let P = HasSlot {S = S} {R = R} shown (block * width) in
          let behind = all_right P stored (b ∷ slots) sizes in
          All-append P stored' slots (subst (All P) (sym e) (All-push P stored last (all_left P stored (b ∷ slots) sizes) (grown_slot (block * width) (shown b.slot) (shown last.slot) grew (All-head P b slots behind)))) (All-tail P b slots behind)

-- where nothing is left, nothing is left of the list
pub rest_none : {X : Type 0} (xs ys : List X) (block : ℕ) → length (xs ++ ys) ≤ 0 * block → ys ≡ []
rest_none xs [] block h = refl
rest_none xs (y ∷ ys) block h = let z : 0 * block ≡ 0 = omega arith in absurd (omega (arith, h, z, length-append xs (y ∷ ys)))

-- a block that is written has a record
pub some_out : (k block left out : ℕ) → 1 ≤ block → suc k * block < left + block → out ≡ min block left → 0 < out
some_out k block left out some least count = omega (arith, suc-mul k block, least, count)

module _ {S R : Type 0} (cmp : R → R → Ordering) (record_of : List ℕ → R) (width block : ℕ) (shown : S → Shown) where
  pub write_failed :
      (slots0 : List (DeviceBlock S R)) (runs0 : List (Run R)) (rest0 : List R) (b : DeviceBlock S R) (slots : List (DeviceBlock S R)) (runs runs' : List (Run R)) (rest : List R) (array array' : External S R) (failed : DeviceBlock S R)
      → Writing cmp record_of width block shown slots0 runs0 rest0 (b ∷ slots) runs rest array → map buffers_of runs' ≡ map buffers_of runs → BlockFailed shown b.slot array array' failed
      → WriteFailed shown (block * width) slots0 runs0 slots runs' array' failed
  write_failed slots0 runs0 rest0 b slots runs runs' rest array array' failed is same put =
      let blocks : array.stored ≡ array'.stored = sym (ap (λ a. a.stored) put.run) in
      let xs = slots_shown shown array.stored in
      let ys = slots_shown shown slots in
      let P = HasSlot {S = S} {R = R} shown (block * width) in
      let behind = all_right P array.stored (b ∷ slots) is.sizes in
      let sizes : All P (array.stored ++ failed ∷ slots) = All-append P array.stored (failed ∷ slots) (all_left P array.stored (b ∷ slots) is.sizes) (All-cons P failed slots (grown_slot (block * width) (shown b.slot) (shown failed.slot) put.grew (All-head P b slots behind)) (All-tail P b slots behind)) in
      let before = slots_shown shown slots0 in
      let now = xs ++ shown failed.slot ∷ ys in
      let few : length array.stored ≤ length slots0 = omega (arith, is.went.went.same.length, length-append xs (shown b.slot ∷ ys), slots_long shown array.stored, slots_long shown slots0) in
      let called = WentWriting-more before xs ys (shown b.slot) (shown failed.slot) (length array.stored) 0 (length array.stored) is.went put.grew put.transfers (omega arith) in
      record {
        went = subst (λ bs. WentWriting (length slots0) before (slots_shown shown bs ++ shown failed.slot ∷ ys)) blocks (WentWriting-weaker (length array.stored) (length slots0) before now few called);
        sizes = subst (λ bs. All P (bs ++ failed ∷ slots)) blocks sizes;
        shape = put.run ∙ is.shape ∙ ap (λ bs. external 0 (run_of [] 0 []) [] bs) blocks;
        buffers = same ∙ is.buffers;
        first = record {
          front = is.in_order.front;
          first = shown b.slot;
          behind = ys;
          order = is.in_order.order;
          well = subst (λ (bs : List (DeviceBlock S R)). AllZip WroteWell is.in_order.front (slots_shown shown bs)) blocks is.in_order.well;
          number = put.grew.number;
          rose = put.rose;
        };
      }
