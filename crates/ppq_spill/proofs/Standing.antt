-- Records that stand in buffers, and the blocks that these become.
use Rattle.std.proofs.Common.{◌≡◌, ℕ, zero, suc, ◌+◌, ◌-◌, ◌*◌, ◌<◌, ◌≤◌, List, [], ◌∷◌, ◌++◌, length, map, take, drop, min, sum_by, All, Option, Some, None, IsSome, IsNone, ◌↔◌, refl, sym, ap, ap₂, ◌∙◌, subst, arith, append_assoc, length-append, append-nil}
use Rattle.std.specs.Prelude.{flat_map}
use Rattle.std.specs.List.{AllZip}
use Rattle.std.proofs.Math.Nat.{suc-mul}
use Rattle.std.proofs.lemmas.List.{map-append, take-append-le, length-map, length-take, length-drop}
use Rattle.std.proofs.lemmas.List.Concat.{flat_map-cons}
use Rattle.std.proofs.lemmas.Grind.{flat_map-append}
use Rattle.std.proofs.lemmas.List.Sums.{sum_by-cons, sum_by-append}
use Rattle.std.proofs.lemmas.List.Elements.{All-cons, All-head, All-tail, All-nil, All-push, All-append, length_all_zip}
use Rattle.std.specs.declared.cmp.Ordering.{Ordering}
use Rattle.ppq_fetch.specs.ppq_block.Block.{Block, holding}
use Rattle.ppq_fetch.specs.ppq_outside.Shown.{Shown, Tells, AllTell}
use Rattle.ppq_fetch.specs.ppq_lane.declared.job.Job.{Job}
use Rattle.ppq_fetch.specs.ppq_array.declared.berth.DeviceBlock.{DeviceBlock}
use Rattle.ppq_fetch.specs.ppq_array.Run.{run_of}
use Rattle.ppq_fetch.specs.ppq_array.External.{External, external, counts, block_items, blocks_items, IsPacked}
use Rattle.ppq_fetch.specs.ppq_array.Owner.{slots_shown, HasSlot, HasBlock}
use Rattle.ppq_fetch.specs.ppq_array.Supply.{Stock, IsSlot}
use Rattle.ppq_fetch.proofs.ppq_array.Noted.{all_left, all_right, take_whole}
use Rattle.ppq_spill.specs.Went.{Went, WentWriting, AtLeast}
use Rattle.ppq_fetch.specs.ppq_array.Kept.{SameSums, AreQuiet, all_faults}
use Rattle.ppq_spill.specs.Making.{hand, hand_slots, SameRest, WroteAll, Tried}
use Rattle.ppq_spill.proofs.Parts.{SameRest-trans, hand_sum}
use Rattle.ppq_spill.proofs.Blocks.{fewer_than}
use Rattle.ppq_spill.specs.Grouping.{appended, slot_of, buf_of, block_of, IsWrite, IsGood}
use Rattle.ppq_spill.specs.Staging.{StandIn, Staged}
use Rattle.ppq_spill.proofs.Going.{f_of, Went-placed, WentWriting-refl, quiet_placed, each-none, each-then, each_placed}
use Rattle.ppq_spill.proofs.Grouped.{Ran, went_each, called_all, sized_all, told_items, good_write, good_quiet, good_each}
use Rattle.ppq_spill.proofs.Telling.{tell_moved}
use Rattle.ppq_spill.proofs.Keeping.{sum_ones, slots_long}

module _ {R : Type 0} where
  abbrev pub items_of_buf : Block R → List R
  items_of_buf b = b.items

  -- how many records stand in buffers
  stand_count : (bs : List (Block R)) → length (flat_map items_of_buf bs) ≡ sum_by (λ (b : Block R). length b.items) bs
  stand_count [] = refl
  stand_count (b ∷ bs) = ap length (flat_map-cons items_of_buf b bs) ∙ length-append b.items (flat_map items_of_buf bs) ∙ ap (λ n. length b.items + n) (stand_count bs) ∙ sym (sum_by-cons (λ (b : Block R). length b.items) b bs)

  pub stand_sum : (bs : List (Block R)) → sum_by (λ (b : Block R). length b.items) bs ≡ length (flat_map items_of_buf bs)
  stand_sum bs = sym (stand_count bs)

  pub full_sum : (block : ℕ) (bs : List (Block R)) → All (λ (b : Block R). length b.items ≡ block) bs → sum_by (λ (b : Block R). length b.items) bs ≡ length bs * block
  full_sum block [] full = (let e : 0 ≡ 0 * block = omega arith in e)
  full_sum block (b ∷ bs) full =
      omega (
        arith,
        sum_by-cons (λ (b : Block R). length b.items) b bs,
        All-head (λ (b : Block R). length b.items ≡ block) b bs full,
        full_sum block bs (All-tail (λ (b : Block R). length b.items ≡ block) b bs full),
        suc-mul (length bs) block,
      )

  -- where records are left, the buffers are fewer than so many that have room for all
  pub stand_less :
      (block at n : ℕ) (records : List R) (bs : List (Block R)) → StandIn block (take at records) bs → All (λ (b : Block R). length b.items ≡ block) bs → at < length records → length records ≤ n * block → length bs < n
  stand_less block at n records bs stand full more room =
      fewer_than (length bs) n block (omega (arith, full_sum block bs full, stand_count bs, ap length stand.all, length-take at records, more, room))

  -- the next records of a list, at most a block of them
  pub part_count : (block at end : ℕ) (records : List R) → at < length records → end ≡ min (length records) (at + block) → length (take (end - at) (drop at records)) ≡ end - at
  part_count block at end records more is = omega (arith, length-take (end - at) (drop at records), length-drop at records, more, is)

  -- no buffer
  pub StandIn-none : (block : ℕ) → 1 ≤ block → StandIn {R = R} block [] []
  StandIn-none block some =
      record {
        each = All-nil (λ (b : Block R). b ≡ holding block b.items);
        some = All-nil (λ (b : Block R). 0 < length b.items);
        fit = All-nil (λ (b : Block R). length b.items ≤ block);
        all = refl;
        full = All-nil (λ (b : Block R). length b.items ≡ block);
        tight = (let e : 0 * block ≡ 0 = omega arith in omega (arith, e, some));
      }

  -- one more, where the others are full
  pub StandIn-more :
      (block : ℕ) (records part all : List R) (bs : List (Block R)) (b : Block R) → StandIn block records bs → All (λ (b : Block R). length b.items ≡ block) bs → b ≡ holding block part → 0 < length part → length part ≤ block → all ≡ records ++ part
      → StandIn block all (bs ++ b ∷ [])
  StandIn-more block records part all bs b stand full is some fit all_is =
      let items : b.items ≡ part = ap (λ (b : Block R). b.items) is in
      let but : take (length (bs ++ b ∷ []) - 1) (bs ++ b ∷ []) ≡ bs =
      ap (λ k. take k (bs ++ b ∷ [])) (let n : length (bs ++ b ∷ []) - 1 ≡ length bs = omega (arith, length-append bs (b ∷ [])) in n) ∙ take-append-le (length bs) bs (b ∷ []) (omega arith) ∙ take_whole bs in
      let sum : length records ≡ length bs * block = ap length (sym stand.all) ∙ stand_count bs ∙ full_sum block bs full in
      let long : length (bs ++ b ∷ []) ≡ suc (length bs) = omega (arith, length-append bs (b ∷ [])) in
      record {
        each = All-push (λ (b : Block R). b ≡ holding block b.items) bs b stand.each (is ∙ ap (holding block) (sym items));
        some = All-push (λ (b : Block R). 0 < length b.items) bs b stand.some (omega (arith, ap length items, some));
        fit = All-push (λ (b : Block R). length b.items ≤ block) bs b stand.fit (omega (arith, ap length items, fit));
        all = flat_map-append items_of_buf bs (b ∷ []) ∙ ap₂ (λ xs ys. xs ++ ys) stand.all (flat_map-cons items_of_buf b [] ∙ append-nil b.items ∙ items) ∙ sym all_is;
        full = subst (All (λ (b : Block R). length b.items ≡ block)) (sym but) full;
        tight = subst (λ n. n * block < length all + block) (sym long) (omega (arith, suc-mul (length bs) block, sum, ap length all_is, length-append records part, some));
      }

module _ {S R : Type 0} where
  -- blocks with as many records as buffers
  counts_as : (js : List (Job (DeviceBlock S R) R)) → counts (map block_of js) ≡ sum_by (λ (b : Block R). length b.items) (map buf_of js)
  counts_as [] = refl
  counts_as (j ∷ js) = omega (arith, counts_as js, sum_by-cons (λ (b : DeviceBlock S R). b.count) (block_of j) (map block_of js), sum_by-cons (λ (b : Block R). length b.items) j.buf (map buf_of js))

  fit_as : (block : ℕ) (js : List (Job (DeviceBlock S R) R)) → All (λ (b : Block R). length b.items ≤ block) (map buf_of js) → All (λ (b : DeviceBlock S R). b.count ≤ block) (map block_of js)
  fit_as block [] fit = All-nil (λ (b : DeviceBlock S R). b.count ≤ block)
  fit_as block (j ∷ js) fit =
      let P : Block R → Type 0 = λ b. length b.items ≤ block in
      All-cons (λ (b : DeviceBlock S R). b.count ≤ block) (block_of j) (map block_of js) (All-head P j.buf (map buf_of js) fit) (fit_as block js (All-tail P j.buf (map buf_of js) fit))

  full_as :
      (block n : ℕ) (js : List (Job (DeviceBlock S R) R)) → All (λ (b : Block R). length b.items ≡ block) (take n (map buf_of js)) → All (λ (b : DeviceBlock S R). b.count ≡ block) (take n (map block_of js))
  full_as block zero js full = All-nil (λ (b : DeviceBlock S R). b.count ≡ block)
  full_as block (suc n) [] full = All-nil (λ (b : DeviceBlock S R). b.count ≡ block)
  full_as block (suc n) (j ∷ js) full =
      let P : Block R → Type 0 = λ b. length b.items ≡ block in
      All-cons (λ (b : DeviceBlock S R). b.count ≡ block) (block_of j) (take n (map block_of js)) (All-head P j.buf (take n (map buf_of js)) full) (full_as block n js (All-tail P j.buf (take n (map buf_of js)) full))

  packed_as : (block : ℕ) (records : List R) (js : List (Job (DeviceBlock S R) R)) → StandIn block records (map buf_of js) → IsPacked block (map block_of js)
  packed_as block records js stand =
      let same : length (map buf_of js) - 1 ≡ length (map block_of js) - 1 = omega (arith, length-map js buf_of, length-map js block_of) in
      record { full = subst (λ n. All (λ (b : DeviceBlock S R). b.count ≡ block) (take n (map block_of js))) same (full_as block (length (map buf_of js) - 1) js stand.full); last = fit_as block js stand.fit }

module _ {S R : Type 0} (cmp : R → R → Ordering) (bytes_of : R → List ℕ) (record_of : List ℕ → R) (width block : ℕ) (shown : S → Shown) where
  -- where the slots of jobs tell, the blocks that they wrote have the records of their buffers
  items_as :
      (js ds : List (Job (DeviceBlock S R) R)) → All IsWrite js → AllZip (Ran cmp bytes_of record_of width block shown) js ds → All IsGood ds → AllTell (slots_shown shown (map slot_of js))
      → blocks_items record_of width shown (map block_of ds) ≡ flat_map items_of_buf (map buf_of js)
  items_as [] [] is zip good tell = refl
  items_as [] (d ∷ ds) is zip good tell = absurd zip
  items_as (j ∷ js) [] is zip good tell = absurd zip
  items_as (j ∷ js) (d ∷ ds) is zip good tell =
      flat_map-cons (block_items record_of width shown) (block_of d) (map block_of ds)
      ∙ ap₂ (λ xs ys. xs ++ ys) (told_items cmp bytes_of record_of width block shown j d (All-head IsWrite j js is) zip.0 (All-head IsGood d ds good) (All-head Tells (shown j.slot.slot) (slots_shown shown (map slot_of js)) tell))
      (items_as js ds (All-tail IsWrite j js is) zip.1 (All-tail IsGood d ds good) (All-tail Tells (shown j.slot.slot) (slots_shown shown (map slot_of js)) tell))
      ∙ sym (flat_map-cons items_of_buf j.buf (map buf_of js))

  written_as : (js ds : List (Job (DeviceBlock S R) R)) → All IsWrite js → AllZip (Ran cmp bytes_of record_of width block shown) js ds → All IsGood ds → All (λ (b : DeviceBlock S R). 1 ≤ (shown b.slot).writes) (map block_of ds)
  written_as [] [] is zip good = All-nil (λ (b : DeviceBlock S R). 1 ≤ (shown b.slot).writes)
  written_as [] (d ∷ ds) is zip good = absurd zip
  written_as (j ∷ js) [] is zip good = absurd zip
  written_as (j ∷ js) (d ∷ ds) is zip good =
      All-cons (λ (b : DeviceBlock S R). 1 ≤ (shown b.slot).writes) (block_of d) (map block_of ds) (good_write cmp bytes_of record_of width block shown j d (All-head IsWrite j js is) zip.0 (All-head IsGood d ds good))
      (written_as js ds (All-tail IsWrite j js is) zip.1 (All-tail IsGood d ds good))

  -- the same of the first jobs alone
  written_some : (js ds es : List (Job (DeviceBlock S R) R)) → All IsWrite js → AllZip (Ran cmp bytes_of record_of width block shown) js (ds ++ es) → All IsGood ds → All (λ (b : DeviceBlock S R). 1 ≤ (shown b.slot).writes) (map block_of ds)
  written_some js [] es is zip good = All-nil (λ (b : DeviceBlock S R). 1 ≤ (shown b.slot).writes)
  written_some [] (d ∷ ds) es is zip good = absurd zip
  written_some (j ∷ js) (d ∷ ds) es is zip good =
      All-cons (λ (b : DeviceBlock S R). 1 ≤ (shown b.slot).writes) (block_of d) (map block_of ds) (good_write cmp bytes_of record_of width block shown j d (All-head IsWrite j js is) zip.0 (All-head IsGood d ds good))
      (written_some js ds es (All-tail IsWrite j js is) zip.1 (All-tail IsGood d ds good))

  -- the slots of the blocks are those of the jobs
  same_slots : (ds : List (Job (DeviceBlock S R) R)) → slots_shown shown (map block_of ds) ≡ slots_shown shown (map slot_of ds)
  same_slots [] = refl
  same_slots (d ∷ ds) = ap (λ xs. shown d.slot.slot ∷ xs) (same_slots ds)

  sized_as : (ds : List (Job (DeviceBlock S R) R)) → All (HasSlot {S = S} {R = R} shown (block * width)) (map slot_of ds) → All (HasSlot {S = S} {R = R} shown (block * width)) (map block_of ds)
  sized_as [] sizes = sizes
  sized_as (d ∷ ds) sizes =
      let P = HasSlot {S = S} {R = R} shown (block * width) in
      All-cons P (block_of d) (map block_of ds) (All-head P d.slot (map slot_of ds) sizes) (sized_as ds (All-tail P d.slot (map slot_of ds) sizes))

  -- no call of them failed
  quiet_all : (js ds : List (Job (DeviceBlock S R) R)) → All IsWrite js → AllZip (Ran cmp bytes_of record_of width block shown) js ds → All IsGood ds → AreQuiet (slots_shown shown (map slot_of js)) (slots_shown shown (map slot_of ds))
  quiet_all [] [] is zip good = refl
  quiet_all [] (d ∷ ds) is zip good = absurd zip
  quiet_all (j ∷ js) [] is zip good = absurd zip
  quiet_all (j ∷ js) (d ∷ ds) is zip good =
      let rest : all_faults (slots_shown shown (map slot_of ds)) ≡ all_faults (slots_shown shown (map slot_of js)) = quiet_all js ds (All-tail IsWrite j js is) zip.1 (All-tail IsGood d ds good) in
      let e : all_faults (shown d.slot.slot ∷ slots_shown shown (map slot_of ds)) ≡ all_faults (shown j.slot.slot ∷ slots_shown shown (map slot_of js)) =
      omega (
        arith,
        rest,
        good_quiet cmp bytes_of record_of width block shown j d (All-head IsWrite j js is) zip.0 (All-head IsGood d ds good),
        sum_by-cons f_of (shown d.slot.slot) (slots_shown shown (map slot_of ds)),
        sum_by-cons f_of (shown j.slot.slot) (slots_shown shown (map slot_of js)),
      ) in
      e

  -- each of them was written
  each_all : (js ds : List (Job (DeviceBlock S R) R)) → All IsWrite js → AllZip (Ran cmp bytes_of record_of width block shown) js ds → All IsGood ds → AtLeast (length ds) (slots_shown shown (map slot_of js)) (slots_shown shown (map slot_of ds))
  each_all [] [] is zip good = each-none []
  each_all [] (d ∷ ds) is zip good = absurd zip
  each_all (j ∷ js) [] is zip good = absurd zip
  each_all (j ∷ js) (d ∷ ds) is zip good =
      let s = shown j.slot.slot in
      let t = shown d.slot.slot in
      let ss = slots_shown shown (map slot_of js) in
      let ts = slots_shown shown (map slot_of ds) in
      let one = each_placed 1 ss (s ∷ []) (t ∷ []) (s ∷ ss) (t ∷ ss) (λ f. omega (arith, sum_by-cons f s ss, sum_by-cons f s [])) (λ f. omega (arith, sum_by-cons f t ss, sum_by-cons f t []))
      (good_each cmp bytes_of record_of width block shown j d (All-head IsWrite j js is) zip.0 (All-head IsGood d ds good)) in
      let rest = each_placed (length ds) (t ∷ []) ss ts (t ∷ ss) (t ∷ ts) (λ f. omega (arith, sum_by-cons f t ss, sum_by-cons f t [])) (λ f. omega (arith, sum_by-cons f t ts, sum_by-cons f t []))
      (each_all js ds (All-tail IsWrite j js is) zip.1 (All-tail IsGood d ds good)) in
      λ exact. omega (arith, each-then 1 (length ds) (s ∷ ss) (t ∷ ss) (t ∷ ts) one rest exact)

  -- all slots at hand, where some of them went to jobs
  staged_before :
      (records : List R) (idle idle' : List (Block R)) (berths berths' : List (DeviceBlock S R)) (stock stock' : Stock) (jobs : List (Job (DeviceBlock S R) R)) (made : External S R)
      → Staged width block shown records idle idle' berths berths' stock stock' jobs
      → (f : Shown → ℕ) → sum_by f (hand_slots shown (hand made berths stock)) ≡ sum_by f (slots_shown shown made.stored ++ slots_shown shown berths' ++ stock'.kept) + sum_by f (slots_shown shown (map slot_of jobs))
  staged_before records idle idle' berths berths' stock stock' jobs made staged f =
      let xs = slots_shown shown made.stored in
      let b0 = slots_shown shown berths in
      let b1 = slots_shown shown berths' in
      let js = slots_shown shown (map slot_of jobs) in
      omega (
        arith,
        sum_by-append f (xs ++ b0) stock.kept,
        sum_by-append f xs b0,
        staged.moved f,
        sum_by-append f b0 stock.kept,
        sum_by-append f js (b1 ++ stock'.kept),
        sum_by-append f b1 stock'.kept,
        sum_by-append f (xs ++ b1) stock'.kept,
        sum_by-append f xs b1,
      )

  -- records that were staged, and written by jobs that all answered Ok
  pub staged_written :
      (records : List R) (idle idle' : List (Block R)) (berths berths' : List (DeviceBlock S R)) (stock stock' : Stock) (jobs done : List (Job (DeviceBlock S R) R)) (made : External S R) → made ≡ external made.level (run_of [] 0 []) [] made.stored
      → Staged width block shown records idle idle' berths berths' stock stock' jobs → map buf_of done ≡ map buf_of jobs → AllZip (Ran cmp bytes_of record_of width block shown) jobs done → All IsGood done
      → WroteAll record_of width block shown (block * width) records (hand made berths stock) (hand (appended made done) berths' stock')
  staged_written records idle idle' berths berths' stock stock' jobs done made shape staged same zip good =
      let P = HasSlot {S = S} {R = R} shown (block * width) in
      let stand = subst (StandIn block records) (sym same) staged.stand in
      let xs = slots_shown shown made.stored in
      let b0 = slots_shown shown berths in
      let b1 = slots_shown shown berths' in
      let js = slots_shown shown (map slot_of jobs) in
      let ds = slots_shown shown (map slot_of done) in
      let bs = slots_shown shown (map block_of done) in
      let old = hand made berths stock in
      let new = hand (appended made done) berths' stock' in
      let called = called_all cmp bytes_of record_of width block shown jobs done staged.write zip in
      let long : length js ≡ length (map block_of done) = omega (arith, length-map (map slot_of jobs) (λ (b : DeviceBlock S R). shown b.slot), length-map jobs slot_of, length-map done block_of, length-map done buf_of, length-map jobs buf_of, ap length same) in
      let together : slots_shown shown (made.stored ++ map block_of done) ≡ xs ++ ds = map-append (λ (b : DeviceBlock S R). shown b.slot) made.stored (map block_of done) ∙ ap (λ ys. xs ++ ys) (same_slots done) in
      let group : Went (length js) 0 js ds =
      (subst (WentWriting (length js) js) (append-nil ds) (went_each js [] js ds [] 0 (length js) (omega arith) (subst (WentWriting 0 js) (sym (append-nil js)) (WentWriting-refl js)) called)).went in
      let others = xs ++ b1 ++ stock'.kept in
      let before : (f : Shown → ℕ) → sum_by f (hand_slots shown old) ≡ sum_by f others + sum_by f js = staged_before records idle idle' berths berths' stock stock' jobs made staged in
      let now : (f : Shown → ℕ) → sum_by f (hand_slots shown new) ≡ sum_by f others + sum_by f ds =
      λ f. omega (
        arith,
        sum_by-append f (slots_shown shown (made.stored ++ map block_of done) ++ b1) stock'.kept,
        sum_by-append f (slots_shown shown (made.stored ++ map block_of done)) b1,
        ap (sum_by f) together,
        sum_by-append f xs ds,
        sum_by-append f (xs ++ b1) stock'.kept,
        sum_by-append f xs b1,
      ) in
      let went : Went (length js) 0 (hand_slots shown old) (hand_slots shown new) = Went-placed (length js) 0 others js ds (hand_slots shown old) (hand_slots shown new) before now group in
      let told : AllTell (hand_slots shown old) → AllTell js = λ t.
      all_left Tells js (b1 ++ stock'.kept) (tell_moved (b0 ++ stock.kept) (js ++ (b1 ++ stock'.kept)) staged.moved (all_right Tells xs (b0 ++ stock.kept) (subst AllTell (append_assoc xs b0 stock.kept) t))) in
      record {
        blocks = map block_of done;
        wrote = record {
          made = ap (λ l. external made.level made.loaded l (made.stored ++ map block_of done)) (sym (ap (λ (a : External S R). a.lifted) shape));
          went = subst (λ n. Went n 0 (hand_slots shown old) (hand_slots shown new)) long went;
          rest = staged.rest;
          room = omega (arith, staged.room, length-append made.stored (map block_of done), length-map done block_of, length-map done buf_of, length-map jobs buf_of, ap length same);
          sizes = λ sizes.
              All-append P (made.stored ++ map block_of done) berths'
              (All-append P made.stored (map block_of done) (all_left P made.stored berths sizes) (sized_as done (sized_all cmp bytes_of record_of width block shown jobs done staged.write zip staged.sized))) staged.sizes;
          written = written_as jobs done staged.write zip good;
        };
        quiet = quiet_placed others js ds (hand_slots shown old) (hand_slots shown new) before now (quiet_all jobs done staged.write zip good);
        each = subst (λ n. AtLeast n (hand_slots shown old) (hand_slots shown new)) (sym (length-map done block_of)) (each_placed (length done) others js ds (hand_slots shown old) (hand_slots shown new) before now (each_all jobs done staged.write zip good));
        size = counts_as done ∙ sym (stand_count (map buf_of done)) ∙ ap length stand.all;
        packed = packed_as block records done stand;
        tight = (let n : length (map buf_of done) ≡ length (map block_of done) = omega (arith, length-map done buf_of, length-map done block_of) in subst (λ k. k * block < length records + block) n stand.tight);
        items = λ t. items_as jobs done staged.write zip good (told t) ∙ ap (flat_map items_of_buf) (sym same) ∙ stand.all;
      }

  -- The same, where some jobs answered Ok and the next one failed: its slot and those behind it are left
  pub staged_failed :
      (records : List R) (idle idle' : List (Block R)) (berths berths' : List (DeviceBlock S R)) (stock stock' : Stock) (jobs good : List (Job (DeviceBlock S R) R)) (bad : Job (DeviceBlock S R) R) (later : List (Job (DeviceBlock S R) R)) (made : External S R)
      → made ≡ external made.level (run_of [] 0 []) [] made.stored → Staged width block shown records idle idle' berths berths' stock stock' jobs → AllZip (Ran cmp bytes_of record_of width block shown) jobs (good ++ bad ∷ later) → All IsGood good
      → Tried shown (block * width) (length later + 1) (hand made berths stock) (hand (appended made good) (bad.slot ∷ (berths' ++ map slot_of later)) stock') (map block_of good)
  staged_failed records idle idle' berths berths' stock stock' jobs good bad later made shape staged zip is_good =
      let P = HasSlot {S = S} {R = R} shown (block * width) in
      let done = good ++ bad ∷ later in
      let xs = slots_shown shown made.stored in
      let b1 = slots_shown shown berths' in
      let js = slots_shown shown (map slot_of jobs) in
      let ds = slots_shown shown (map slot_of done) in
      let gs = slots_shown shown (map slot_of good) in
      let ls = slots_shown shown (map slot_of later) in
      let t = shown bad.slot.slot in
      let old = hand made berths stock in
      let new = hand (appended made good) (bad.slot ∷ (berths' ++ map slot_of later)) stock' in
      let called = called_all cmp bytes_of record_of width block shown jobs done staged.write zip in
      let group : Went (length js) 0 js ds =
      (subst (WentWriting (length js) js) (append-nil ds) (went_each js [] js ds [] 0 (length js) (omega arith) (subst (WentWriting 0 js) (sym (append-nil js)) (WentWriting-refl js)) called)).went in
      let parts : ds ≡ gs ++ t ∷ ls = ap (slots_shown shown) (map-append slot_of good (bad ∷ later)) ∙ map-append (λ (b : DeviceBlock S R). shown b.slot) (map slot_of good) (bad.slot ∷ map slot_of later) in
      let together : slots_shown shown (made.stored ++ map block_of good) ≡ xs ++ gs = map-append (λ (b : DeviceBlock S R). shown b.slot) made.stored (map block_of good) ∙ ap (λ ys. xs ++ ys) (same_slots good) in
      let behind : slots_shown shown (berths' ++ map slot_of later) ≡ b1 ++ ls = map-append (λ (b : DeviceBlock S R). shown b.slot) berths' (map slot_of later) in
      let others = xs ++ b1 ++ stock'.kept in
      let before : (f : Shown → ℕ) → sum_by f (hand_slots shown old) ≡ sum_by f others + sum_by f js = staged_before records idle idle' berths berths' stock stock' jobs made staged in
      let now : (f : Shown → ℕ) → sum_by f (hand_slots shown new) ≡ sum_by f others + sum_by f ds =
      λ f. omega (
        arith,
        hand_sum shown f new,
        ap (sum_by f) together,
        sum_by-append f xs gs,
        sum_by-cons f t (slots_shown shown (berths' ++ map slot_of later)),
        ap (sum_by f) behind,
        sum_by-append f b1 ls,
        ap (sum_by f) parts,
        sum_by-append f gs (t ∷ ls),
        sum_by-cons f t ls,
        sum_by-append f (xs ++ b1) stock'.kept,
        sum_by-append f xs b1,
      ) in
      let went : Went (length js) 0 (hand_slots shown old) (hand_slots shown new) = Went-placed (length js) 0 others js ds (hand_slots shown old) (hand_slots shown new) before now group in
      let count : length js ≡ length (map block_of good) + (length later + 1) =
      omega (arith, length-map (map slot_of jobs) (λ (b : DeviceBlock S R). shown b.slot), length-map jobs slot_of, length_all_zip (Ran cmp bytes_of record_of width block shown) jobs done zip, length-append good (bad ∷ later), length-map good block_of) in
      let sized = sized_all cmp bytes_of record_of width block shown jobs done staged.write zip staged.sized in
      let sized_parts = subst (All P) (map-append slot_of good (bad ∷ later)) sized in
      let sized_good = all_left P (map slot_of good) (bad.slot ∷ map slot_of later) sized_parts in
      let sized_rest = all_right P (map slot_of good) (bad.slot ∷ map slot_of later) sized_parts in
      record {
        made = ap (λ l. external made.level made.loaded l (made.stored ++ map block_of good)) (sym (ap (λ (a : External S R). a.lifted) shape));
        went = subst (λ n. Went n 0 (hand_slots shown old) (hand_slots shown new)) count went;
        rest = staged.rest;
        room = omega (arith, staged.room, length-append made.stored (map block_of good), length-map good block_of, length-append berths' (map slot_of later), length-map later slot_of, length_all_zip (Ran cmp bytes_of record_of width block shown) jobs done zip, length-append good (bad ∷ later));
        sizes = λ sizes.
            All-append P (made.stored ++ map block_of good) (bad.slot ∷ (berths' ++ map slot_of later))
            (All-append P made.stored (map block_of good) (all_left P made.stored berths sizes) (sized_as good sized_good))
            (All-cons P bad.slot (berths' ++ map slot_of later) (All-head P bad.slot (map slot_of later) sized_rest) (All-append P berths' (map slot_of later) staged.sizes (All-tail P bad.slot (map slot_of later) sized_rest)));
        written = written_some jobs good (bad ∷ later) staged.write zip is_good;
      }

-- the first records, and the next ones
pub taken_on : {R : Type 0} (at n : ℕ) (xs : List R) → take (at + n) xs ≡ take at xs ++ take n (drop at xs)
taken_on {R} zero n xs = ap (λ k. take k xs) (let e : 0 + n ≡ n = omega arith in e)
taken_on {R} (suc at) n [] = take_none (suc at + n) ∙ sym (take_none n)
  where
    take_none : (n : ℕ) → take {A = R} n [] ≡ []
    take_none zero = refl
    take_none (suc n) = refl
taken_on (suc at) n (x ∷ xs) = ap (λ k. take k (x ∷ xs)) (let e : suc at + n ≡ suc (at + n) = omega arith in e) ∙ ap (λ ys. x ∷ ys) (taken_on at n xs)

module _ {S R : Type 0} (width block : ℕ) (shown : S → Shown) where
  pub staged_none :
      (idle : List (Block R)) (berths : List (DeviceBlock S R)) (stock : Stock) (jobs : List (Job (DeviceBlock S R) R)) → jobs ≡ [] → 1 ≤ block → All (HasBlock block) idle → All (HasSlot shown (block * width)) berths
      → Staged width block shown [] idle idle berths berths stock stock jobs
  staged_none idle berths stock jobs none some blocks sizes =
      subst (Staged width block shown [] idle idle berths berths stock stock) (sym none)
      (record {
        write = All-nil IsWrite;
        stand = StandIn-none block some;
        moved = λ f. refl;
        room = omega arith;
        left = omega arith;
        rest = record { block = refl; drawn = refl; buffers = refl };
        sized = All-nil (HasSlot shown (block * width));
        sizes = sizes;
        idle_left = omega arith;
        blocks = blocks;
      })

  pub staged_more :
      (records part all : List R) (idle0 idle idle' : List (Block R)) (berths0 berths berths' : List (DeviceBlock S R)) (s0 s s' : Stock) (jobs : List (Job (DeviceBlock S R) R)) (j : Job (DeviceBlock S R) R)
      → Staged width block shown records idle0 idle berths0 berths s0 s jobs → All (λ (b : Block R). length b.items ≡ block) (map buf_of jobs) → j.buf ≡ holding block part → 0 < length part → length part ≤ block → all ≡ records ++ part → IsWrite j
      → SameSums (slots_shown shown berths ++ s.kept) (shown j.slot.slot ∷ (slots_shown shown berths' ++ s'.kept)) → s'.slot_room + length berths ≡ s.slot_room + 1 + length berths' → length berths' ≡ length berths - 1 → SameRest s s'
      → IsSlot (block * width) (shown j.slot.slot) → All (HasSlot shown (block * width)) berths' → length idle ≡ suc (length idle') → All (HasBlock block) idle' → {jobs' : List (Job (DeviceBlock S R) R)} → jobs' ≡ jobs ++ j ∷ []
      → Staged width block shown all idle0 idle' berths0 berths' s0 s' jobs'
  staged_more records part all idle0 idle idle' berths0 berths berths' s0 s s' jobs j is full held some fit all_is write moved room left rest size sizes idle_is blocks {jobs'} e =
      let P = HasSlot {S = S} {R = R} shown (block * width) in
      let js = slots_shown shown (map slot_of jobs) in
      let b1 = slots_shown shown berths in
      let b2 = slots_shown shown berths' in
      let t = shown j.slot.slot in
      let bufs : map buf_of jobs' ≡ map buf_of jobs ++ j.buf ∷ [] = ap (map buf_of) e ∙ map-append buf_of jobs (j ∷ []) in
      let slots : map slot_of jobs' ≡ map slot_of jobs ++ j.slot ∷ [] = ap (map slot_of) e ∙ map-append slot_of jobs (j ∷ []) in
      let shown_is : slots_shown shown (map slot_of jobs') ≡ js ++ t ∷ [] = ap (slots_shown shown) slots ∙ map-append (λ (b : DeviceBlock S R). shown b.slot) (map slot_of jobs) (j.slot ∷ []) in
      record {
        write = subst (All IsWrite) (sym e) (All-push IsWrite jobs j is.write write);
        stand = subst (StandIn block all) (sym bufs) (StandIn-more block records part all (map buf_of jobs) j.buf is.stand full held some fit all_is);
        moved = λ f.
            omega (
              arith,
              is.moved f,
              moved f,
              ap (sum_by f) shown_is,
              sum_by-append f (slots_shown shown (map slot_of jobs')) (b2 ++ s'.kept),
              sum_by-append f js (b1 ++ s.kept),
              sum_by-append f js (t ∷ []),
              sum_by-cons f t [],
              sum_by-cons f t (b2 ++ s'.kept),
            );
        room = omega (arith, is.room, room, ap length e, length-append jobs (j ∷ []));
        left = omega (arith, is.left, left, ap length e, length-append jobs (j ∷ []));
        rest = SameRest-trans s0 s s' is.rest rest;
        sized = subst (All P) (sym slots) (All-push P (map slot_of jobs) j.slot is.sized size);
        sizes = sizes;
        idle_left = omega (arith, is.idle_left, idle_is, ap length e, length-append jobs (j ∷ []));
        blocks = blocks;
      }

-- a list that is not empty gives its first
pub popped : {X : Type 0} (o : Option X) (old : List X) → (IsNone o ↔ (old ≡ [])) → 0 < length old → IsSome o
popped None old e h = absurd (omega (arith, ap length (e.0 refl), h))
popped (Some x) old e h = refl

-- slots are no fewer by being moved
pub moved_long : (a b c d e : List Shown) → SameSums (a ++ b) (c ++ (d ++ e)) → length a + length b ≡ length c + (length d + length e)
moved_long a b c d e moved =
    let ones : Shown → ℕ = λ _. 1 in
    omega (arith, moved ones, sum_ones (a ++ b), sum_ones (c ++ (d ++ e)), length-append a b, length-append c (d ++ e), length-append d e)

-- where records are left, so are a buffer, a slot, and room for a job
module _ {S R : Type 0} (width block : ℕ) (shown : S → Shown) (records : List R) (at : ℕ) (idle0 idle : List (Block R)) (berths0 berths : List (DeviceBlock S R)) (s0 s : Stock) (jobs : List (Job (DeviceBlock S R) R)) where
  module _ (is : Staged width block shown (take at records) idle0 idle berths0 berths s0 s jobs) (full : All (λ (b : Block R). length b.items ≡ block) (map buf_of jobs)) (more : at < length records) where
    fewer : (n : ℕ) → length records ≤ n * block → length jobs < n
    fewer n room = omega (arith, stand_less block at n records (map buf_of jobs) is.stand full more room, length-map jobs buf_of)

    pub left_idle : length records ≤ length idle0 * block → 0 < length idle
    left_idle room = omega (arith, fewer (length idle0) room, is.idle_left)

    pub left_slot : length records ≤ (length berths0 + length s0.kept) * block → 0 < length berths + length s.kept
    left_slot room =
        omega (
          arith,
          fewer (length berths0 + length s0.kept) room,
          moved_long (slots_shown shown berths0) s0.kept (slots_shown shown (map slot_of jobs)) (slots_shown shown berths) s.kept is.moved,
          slots_long shown berths0,
          slots_long shown berths,
          slots_long shown (map slot_of jobs),
          length-map jobs slot_of,
        )

    pub left_room : (room : ℕ) → length records ≤ room * block → length jobs < room
    left_room room h = fewer room h
