-- Records that are written as blocks, so many of them so far.
use Rattle.std.proofs.Common.{◌≡◌, ℕ, zero, suc, ◌+◌, ◌-◌, ◌*◌, ◌<◌, ◌≤◌, ◌^◌, min, List, [], ◌∷◌, ◌++◌, length, take, drop, All, refl, sym, ap, ap₂, ◌∙◌, subst, arith, length-append}
use Rattle.std.proofs.Math.Nat.{add-mul}
use Rattle.std.proofs.lemmas.Nat.{mul-le}
use Rattle.std.proofs.lemmas.Grind.{flat_map-append}
use Rattle.std.proofs.lemmas.List.{take_all, length-take, length-drop}
use Rattle.std.proofs.lemmas.List.Elements.{All-nil, All-append}
use Rattle.ppq_fetch.specs.ppq_block.Block.{Block}
use Rattle.ppq_fetch.specs.ppq_outside.Shown.{Shown, AllTell}
use Rattle.ppq_fetch.specs.ppq_array.Owner.{HasBlock, HasSlot}
use Rattle.ppq_fetch.specs.ppq_array.Kept.{AreQuiet}
use Rattle.ppq_fetch.proofs.ppq_array.Noted.{all_right}
use Rattle.ppq_fetch.specs.ppq_array.declared.berth.DeviceBlock.{DeviceBlock}
use Rattle.ppq_fetch.specs.ppq_array.declared.store_fault.StoreFault.{StoreFault}
use Rattle.ppq_fetch.specs.ppq_array.Run.{run_of}
use Rattle.ppq_fetch.specs.ppq_array.External.{External, external, size_of, counts, block_items, blocks_items, IsPacked}
use Rattle.ppq_spill.specs.Making.{Hand, hand_slots, Wrote, WroteAll, WroteSome, AllFull, MayWrite, MayWritePart}
use Rattle.ppq_spill.specs.Writing.{SameBuffers}
use Rattle.ppq_spill.specs.Went.{AtLeast}
use Rattle.ppq_spill.proofs.Going.{each-none, each-then}
use Rattle.ppq_spill.proofs.Parts.{Wrote-trans, Wrote-none, hand_long}
use Rattle.ppq_spill.proofs.Blocks.{counts_append, counts_full, all_full, packed_append, packed_full, fewer_than}

-- So many of the records were written, in blocks that are full as long as records are left, and no write failed
pub record Batch {S R : Type 0} (record_of : List ℕ → R) (width block : ℕ) (shown : S → Shown) (bytes : ℕ) (records : List R) (at : ℕ) (old new : Hand S R) : Type 0 where
  pub blocks : List (DeviceBlock S R)
  pub wrote : Wrote shown bytes old new blocks
  pub quiet : AreQuiet (hand_slots shown old) (hand_slots shown new)
  pub each : AtLeast (length blocks) (hand_slots shown old) (hand_slots shown new)
  pub within : at ≤ length records
  pub size : counts blocks ≡ at
  pub packed : IsPacked block blocks
  pub full : at < length records → AllFull block blocks
  pub tight : length blocks * block < at + block
  pub items : AllTell (hand_slots shown old) → blocks_items record_of width shown blocks ≡ take at records

-- with more blocks at its end, an array still has nothing loaded and nothing lifted
pub shape_on : {S R : Type 0} {a b : External S R} {xs : List (DeviceBlock S R)} → a ≡ external a.level (run_of [] 0 []) [] a.stored → b ≡ external a.level a.loaded a.lifted xs → b ≡ external b.level (run_of [] 0 []) [] b.stored
shape_on {S} {R} {a} {b} {xs} shape e =
    let loaded : b.loaded ≡ run_of [] 0 [] = ap (λ x. x.loaded) e ∙ ap (λ x. x.loaded) shape in
    let lifted : b.lifted ≡ [] = ap (λ x. x.lifted) e ∙ ap (λ x. x.lifted) shape in
    ap₂ (λ l m. external b.level l m b.stored) loaded lifted

module _ {S R : Type 0} (record_of : List ℕ → R) (width block : ℕ) (shown : S → Shown) (bytes : ℕ) (records : List R) where
  pub Batch-none : 1 ≤ block → (old : Hand S R) → Batch record_of width block shown bytes records 0 old old
  Batch-none some old =
      record {
        blocks = [];
        wrote = Wrote-none shown bytes old;
        quiet = refl;
        each = each-none (hand_slots shown old);
        within = omega arith;
        size = refl;
        packed = packed_full block [] (All-nil (λ (b : DeviceBlock S R). b.count ≡ block));
        full = λ _. All-nil (λ (b : DeviceBlock S R). b.count ≡ block);
        tight = (let e : 0 * block ≡ 0 = omega arith in omega (arith, e, some));
        items = λ t. refl;
      }

  pub Batch-more :
      (at end : ℕ) (old now new : Hand S R) (part : List R) → 1 ≤ block → Batch record_of width block shown bytes records at old now → at < length records → end ≡ min (length records) (at + block)
      → part ≡ take (end - at) (drop at records) → WroteAll record_of width block shown bytes part now new → Batch record_of width block shown bytes records end old new
  Batch-more at end old now new part some batch more is part_is put =
      let bs = batch.blocks in
      let cs = put.blocks in
      let full = batch.full more in
      let long : length part ≡ end - at = ap length part_is ∙ part_long (end - at) at records (omega (arith, is, more)) in
      let size : counts (bs ++ cs) ≡ end = omega (arith, counts_append block bs cs, batch.size, put.size, long, is, more) in
      let before : length bs * block ≡ at = sym (counts_full block bs full) ∙ batch.size in
      let sum : (length bs + length cs) * block ≡ length bs * block + length cs * block = add-mul (length bs) (length cs) block in
      let tight : length (bs ++ cs) * block < end + block = subst (λ n. n * block < end + block) (sym (length-append bs cs)) (omega (arith, sum, before, put.tight, long, is, more)) in
      record {
        blocks = bs ++ cs;
        wrote = Wrote-trans shown bytes old now new bs cs batch.wrote put.wrote;
        quiet = put.quiet ∙ batch.quiet;
        each = subst (λ n. AtLeast n (hand_slots shown old) (hand_slots shown new)) (sym (length-append bs cs)) (each-then (length bs) (length cs) (hand_slots shown old) (hand_slots shown now) (hand_slots shown new) batch.each put.each);
        within = omega (arith, is);
        size = size;
        packed = packed_append block bs cs full (some_block cs (omega (arith, put.size, long, is, more, some))) put.packed;
        full = λ left. All-append (λ (b : DeviceBlock S R). b.count ≡ block) bs cs full
            (all_full block cs put.packed.last
            (let few : length cs < 2 = fewer_than (length cs) 2 block (let e : 2 * block ≡ block + block = omega arith in omega (arith, put.tight, long, is, left, e)) in
            let e : length cs * block ≤ 1 * block = mul-le (length cs) block 1 block (omega (arith, few)) (omega arith) in
            omega (arith, e, put.size, long, is, left)));
        tight = tight;
        items = λ t.
            flat_map-append (block_items record_of width shown) bs cs
            ∙ ap₂ (λ xs ys. xs ++ ys) (batch.items t) (put.items (batch.wrote.went.tells.0 t) ∙ part_is)
            ∙ taken at (end - at) records ∙ ap (λ n. take n records) (let e : at + (end - at) ≡ end = omega (arith, is, more) in e);
      }
    where
      some_block : (cs : List (DeviceBlock S R)) → 0 < counts cs → 0 < length cs
      some_block [] h = absurd (omega (arith, h))
      some_block (c ∷ cs) h = omega arith

      part_long : (n at : ℕ) (xs : List R) → at + n ≤ length xs → length (take n (drop at xs)) ≡ n
      part_long n at xs h = omega (arith, length-take n (drop at xs), length-drop at xs, h)

      take_none : (n : ℕ) → take {A = R} n [] ≡ []
      take_none zero = refl
      take_none (suc n) = refl

      taken : (at n : ℕ) (xs : List R) → take at xs ++ take n (drop at xs) ≡ take (at + n) xs
      taken zero n xs = ap (λ k. take k xs) (let e : n ≡ 0 + n = omega arith in e)
      taken (suc at) n [] = take_none n ∙ sym (take_none (suc at + n))
      taken (suc at) n (x ∷ xs) = ap (λ ys. x ∷ ys) (taken at n xs) ∙ ap (λ k. take k (x ∷ xs)) (let e : suc (at + n) ≡ suc at + n = omega arith in e)

  -- all records were written
  pub Batch-all : (at : ℕ) (old new : Hand S R) → Batch record_of width block shown bytes records at old new → length records ≤ at → WroteAll record_of width block shown bytes records old new
  Batch-all at old new batch h =
      let e : at ≡ length records = omega (arith, h, batch.within) in
      record {
        blocks = batch.blocks;
        wrote = batch.wrote;
        quiet = batch.quiet;
        each = batch.each;
        size = batch.size ∙ e;
        packed = batch.packed;
        tight = omega (arith, batch.tight, e);
        items = λ t. batch.items t ∙ take_all at records h;
      }

  -- a write failed
  pub Batch-failed :
      (at : ℕ) (old now new : Hand S R) (fault : StoreFault) → Batch record_of width block shown bytes records at old now → at < length records → WroteSome shown block bytes [] now new fault → WroteSome shown block bytes records old new fault
  Batch-failed at old now new fault batch more put =
      let bs = batch.blocks in
      let cs = put.blocks in
      let sum : (length bs + length cs) * block ≡ length bs * block + length cs * block = add-mul (length bs) (length cs) block in
      let before : length bs * block ≡ at = sym (counts_full block bs (batch.full more)) ∙ batch.size in
      let few : length (bs ++ cs) * block ≤ length records = subst (λ n. n * block ≤ length records) (sym (length-append bs cs)) (omega (arith, sum, before, put.few, batch.within)) in
      record { blocks = bs ++ cs; wrote = Wrote-trans shown bytes old now new bs cs batch.wrote put.wrote; few = few; failed = put.failed }

  -- there is all that one more block asks for
  pub Batch-part :
      (at end n : ℕ) (bufs bufs' : List (Block R)) (old now : Hand S R) → MayWrite shown width (length records) bufs old → bytes ≡ block * width → block ≡ old.stock.block → SameBuffers block bufs bufs' → Batch record_of width block shown bytes records at old now
      → at < length records → end ≡ min (length records) (at + block) → n ≡ end - at → MayWritePart shown width n bufs' now
  Batch-part at end n bufs bufs' old now may bytes_is block_is same batch more is n_is =
      let small : block ≤ 65536 = omega (arith, block_is, may.small) in
      let some : 1 ≤ block = omega (arith, block_is, may.some) in
      let shape = may.shape in
      let full : AllFull block old.made.stored = subst (λ b. AllFull b old.made.stored) (sym block_is) (may.full (omega (arith, more))) in
      let slots : length records ≤ (length old.berths + length old.stock.kept) * block = subst (λ b. length records ≤ (length old.berths + length old.stock.kept) * b) (sym block_is) may.slots in
      let few : size_of old.made + length records ≤ (2 ^ 32 - 2) * block = subst (λ b. size_of old.made + length records ≤ (2 ^ 32 - 2) * b) (sym block_is) may.few in
      let block' : block ≡ now.stock.block = block_is ∙ sym batch.wrote.rest.block in
      let bs = batch.blocks in
      let stored : now.made.stored ≡ old.made.stored ++ bs = ap (λ a. a.stored) batch.wrote.made in
      let long : length now.made.stored ≡ length old.made.stored + length bs = ap length stored ∙ length-append old.made.stored bs in
      let before : length bs * block ≡ at = sym (counts_full block bs (batch.full more)) ∙ batch.size in
      let all : length now.made.stored + length now.berths + length now.stock.kept ≡ length old.made.stored + length old.berths + length old.stock.kept = omega (arith, batch.wrote.went.same.length, hand_long shown old, hand_long shown now) in
      let fewer : length bs < length old.berths + length old.stock.kept = fewer_than (length bs) (length old.berths + length old.stock.kept) block (omega (arith, before, more, slots)) in
      let is_shape : now.made ≡ external now.made.level (run_of [] 0 []) [] now.made.stored = shape_on shape batch.wrote.made in
      let old_size : size_of old.made ≡ length old.made.stored * block = ap size_of shape ∙ (let e : 0 + counts old.made.stored ≡ length old.made.stored * block = omega (arith, counts_full block old.made.stored full) in e) in
      let new_size : size_of now.made ≡ size_of old.made + at = ap size_of is_shape ∙ (let e : 0 + counts now.made.stored ≡ size_of old.made + at = omega (arith, ap counts stored, counts_append block old.made.stored bs, counts_full block old.made.stored full, old_size, batch.size) in e) in
      let sum : (length old.made.stored + length bs) * block ≡ length old.made.stored * block + length bs * block = add-mul (length old.made.stored) (length bs) block in
      let most : (2 ^ 32 - 2) * block ≤ (2 ^ 32 - 2) * 65536 = mul-le (2 ^ 32 - 2) block (2 ^ 32 - 2) 65536 (omega arith) small in
      let blocks : length old.made.stored + length bs < 2 ^ 32 - 2 = fewer_than (length old.made.stored + length bs) (2 ^ 32 - 2) block (omega (arith, sum, before, old_size, few, more)) in
      record {
        small = omega (arith, small, block');
        idle = omega (arith, may.idle, same.long);
        few_idle = omega (arith, may.few_idle, same.long);
        blocks = subst (λ b. All (HasBlock b) bufs') block' same.blocks;
        shape = is_shape;
        some = omega (arith, n_is, is, more, some);
        fit = omega (arith, n_is, is, more, block');
        slots = omega (arith, all, long, fewer);
        sizes = subst (λ b. All (HasSlot shown (b * width)) now.berths) block' (all_right (HasSlot shown (block * width)) now.made.stored now.berths (subst (λ k. All (HasSlot shown k) (now.made.stored ++ now.berths)) bytes_is (batch.wrote.sizes (subst (λ k. All (HasSlot shown k) (old.made.stored ++ old.berths)) (ap (λ b. b * width) (sym block_is) ∙ sym bytes_is) may.sizes))));
        takes_back = omega (arith, batch.wrote.room, may.takes_back);
        room = omega (arith, long, blocks);
        few = omega (arith, new_size, few, most, is, more, n_is);
      }
