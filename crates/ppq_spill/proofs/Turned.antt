-- One batch after the other, each taken while the one before it is written.
use Rattle.std.proofs.Common.{◌≡◌, ℕ, ◌+◌, ◌-◌, ◌*◌, ◌<◌, ◌≤◌, ◌^◌, List, [], ◌∷◌, ◌++◌, length, map, take, sum_by, All, None, Result, Ok, Err, refl, sym, ap, ◌∙◌, subst, arith, length-append}
use Rattle.std.specs.List.{AllZip}
use Rattle.std.specs.Cmp.{IsStrictWeakOrder}
use Rattle.std.specs.declared.cmp.Ordering.{Ordering}
use Rattle.std.proofs.Math.Nat.{add-mul}
use Rattle.std.proofs.lemmas.Nat.{mul-le}
use Rattle.std.proofs.lemmas.List.{length-map, length-take}
use Rattle.std.proofs.lemmas.List.Elements.{All-nil, All-append, All-head, length_all_zip}
use Rattle.ppq_fetch.proofs.ppq_array.Noted.{all_right}
use Rattle.ppq_fetch.specs.ppq_record.Order.{is_before}
use Rattle.ppq_fetch.specs.ppq_block.Block.{Block}
use Rattle.ppq_fetch.specs.ppq_outside.Shown.{Shown}
use Rattle.ppq_fetch.specs.ppq_lane.Jobs.{MayRun}
use Rattle.ppq_fetch.specs.ppq_lane.declared.job.Job.{Job}
use Rattle.ppq_fetch.specs.ppq_array.declared.berth.DeviceBlock.{DeviceBlock}
use Rattle.ppq_fetch.specs.ppq_array.declared.store_fault.StoreFault.{StoreFault}
use Rattle.ppq_fetch.specs.ppq_array.declared.store_fault.StoreFault.TheVariants.{Device}
use Rattle.ppq_fetch.specs.ppq_array.External.{External, size_of, counts}
use Rattle.ppq_fetch.specs.ppq_array.Supply.{Stock, GetsSlot, IsSlot}
use Rattle.ppq_fetch.specs.ppq_array.Owner.{HasBlock, HasSlot}
use Rattle.ppq_fetch.specs.ppq_array.Kept.{HasFailed}
use Rattle.ppq_fetch.specs.ppq_array.Holdings.{external_buffers}
use Rattle.ppq_fetch.specs.Fetching.{State, state, AreSources, PartsKept, WentOn, count_in}
use Rattle.ppq_spill.specs.Writing.{SameBuffers}
use Rattle.ppq_spill.specs.Making.{Table, table, hand, hand_slots, total, AllFull, WroteAll, MayWrite, MayMerge, Tried, Merging, MergedOn, MergeFailed}
use Rattle.ppq_spill.specs.Grouping.{CanEnd, GroupStopped, IsGood, IsBad, appended, items_in, slot_of, buf_of, block_of}
use Rattle.ppq_spill.specs.Staging.{MayStage, Staged, MayTake, TookBatch, ReadFailed, Takes}
use Rattle.ppq_spill.proofs.Going.{each-none}
use Rattle.ppq_spill.proofs.Parts.{Wrote-none, failed_there}
use Rattle.ppq_spill.proofs.Blocks.{packed_full, counts_full, fewer_than}
use Rattle.ppq_spill.proofs.Fetches.{went_fit}
use Rattle.ppq_spill.proofs.Merges.{fronts_most, merging_of, Merging-read, Merging-freed}
use Rattle.ppq_spill.proofs.Readies.{enough_taken}
use Rattle.ppq_spill.proofs.Rounds.{may_write, batch_merged, batch_not_read, MergedOn-none, MergedOn-trans, MergeFailed-trans}
use Rattle.ppq_spill.proofs.Framed.{sources_with, fetch_with, parts_with, fetched_with}
use Rattle.ppq_spill.proofs.Grouped.{Ran, same_bufs, bad_fault}
use Rattle.ppq_spill.proofs.Groupwise.{held_blocks, can_end_all}
use Rattle.ppq_spill.proofs.Jobs.{items_same, may_run}
use Rattle.ppq_spill.proofs.Standing.{staged_written, staged_failed, stand_sum}

-- What holds between two batches of a merge from the beginning on: a table that is ready, of which a batch was taken that is not written yet
pub record AtTurn {S R : Type 0} (cmp : R → R → Ordering) (record_of : List ℕ → R) (width workers places most : ℕ) (shown : S → Shown) (o : Table S R) (inputs : List (External S R)) (made : External S R) (berths : List (DeviceBlock S R)) (idle : List (Block R)) (stock : Stock) (batch : List R) (count : ℕ) : Type 0 where
  pub inputs0 : List (External S R)
  pub idle0 : List (Block R)
  pub stock0 : Stock
  pub merged : MergedOn cmp record_of width workers shown o (table inputs0 idle0 made berths stock0)
  pub may : MayMerge shown width workers places most (table inputs0 idle0 made berths stock0)
  pub took : TookBatch cmp record_of width workers shown (state [] inputs0 idle0 stock0) (state [] inputs idle stock) batch count
  pub is_most : length batch ≡ most

module _ {S R : Type 0} (cmp : R → R → Ordering) (bytes_of : R → List ℕ) (record_of : List ℕ → R) (width workers places most : ℕ) (shown : S → Shown) where
  -- whatever the answer of a take
  pub takes_parts : (old new : State S R) (batch : List R) (answer : Result ℕ StoreFault) → Takes cmp record_of width workers shown old new batch answer → PartsKept shown old new × AreSources shown width workers new
  takes_parts old new batch (Ok count) is = (is.taken.parts, is.may.sources)
  takes_parts old new batch (Err fault) is = (is.parts, is.sources)

  module _ (o : Table S R) where
    abbrev Turn : List (External S R) → External S R → List (DeviceBlock S R) → List (Block R) → Stock → List R → ℕ → Type 0
    Turn inputs made berths idle stock batch count = AtTurn cmp record_of width workers places most shown o inputs made berths idle stock batch count

    -- the first batch was taken
    pub turn_first :
        (inputs : List (External S R)) (idle : List (Block R)) (stock : Stock) (batch : List R) (count : ℕ) → MayMerge shown width workers places most o → length batch ≡ most
        → TookBatch cmp record_of width workers shown (state [] o.inputs o.idle o.hand.stock) (state [] inputs idle stock) batch count → Turn inputs o.hand.made o.hand.berths idle stock batch count
    turn_first inputs idle stock batch count may is_most took =
        record { inputs0 = o.inputs; idle0 = o.idle; stock0 = o.hand.stock; merged = MergedOn-none cmp record_of width workers shown o may.ready; may = may; took = took; is_most = is_most }

    module _ (inputs : List (External S R)) (made : External S R) (berths : List (DeviceBlock S R)) (idle : List (Block R)) (stock : Stock) (batch : List R) (count : ℕ) (at : Turn inputs made berths idle stock batch count) where
      abbrev before : Table S R
      before = table at.inputs0 at.idle0 made berths at.stock0

      -- the batch
      abbrev records : List R
      records = take count batch

      pub turn_block : stock.block ≡ at.stock0.block
      turn_block = at.took.taken.parts.kept.block

      pub turn_eight : length inputs ≡ 8
      turn_eight = sym (length_all_zip WentOn at.inputs0 inputs at.took.taken.parts.went_on) ∙ at.may.eight

      turn_buffers : 2 * workers + 8 ≤ length idle + external_buffers inputs
      turn_buffers = omega (arith, at.may.ready.buffers, at.took.taken.parts.buffers)

      -- the batch may be written
      pub turn_write : MayWrite shown width (length records) idle (hand made berths stock)
      turn_write = may_write cmp record_of width workers shown places most before inputs idle stock batch count at.may at.took

      -- there is a buffer for each block of the batch
      turn_idle : workers ≤ length idle
      turn_idle = omega (arith, turn_buffers, at.took.may.sources.bounded, fronts_most inputs, turn_eight)

      pub turn_most : length records ≤ workers * stock.block
      turn_most = subst (λ k. length records ≤ workers * k) (sym turn_block) (omega (arith, length-take count batch, at.is_most, at.may.batch))

      -- that many buffers, or more, have room for it
      turn_room : (n : ℕ) → workers ≤ n → length records ≤ n * stock.block
      turn_room n h = omega (arith, turn_most, mul-le workers stock.block n stock.block h (omega arith))

      -- so it may be put into buffers, where there is room for the jobs
      pub turn_stage : (room : ℕ) → workers ≤ room → (jobs : List (Job (DeviceBlock S R) R)) → jobs ≡ [] → MayStage shown width stock.block (length records) room idle berths stock jobs
      turn_stage room fits jobs none =
          let may = turn_write in
          record {
            block_is = refl;
            some = may.some;
            small = may.small;
            enough = turn_room (length idle) turn_idle;
            blocks = may.blocks;
            no_job = none;
            job_room = turn_room room fits;
            slots = may.slots;
            sizes = all_right (HasSlot shown (stock.block * width)) made.stored berths may.sizes;
            few = omega (arith, may.few);
          }

      -- nothing is left
      pub turn_end : count ≡ 0 → IsStrictWeakOrder (is_before cmp) → MergedOn cmp record_of width workers shown o (table inputs idle made berths stock) × (count_in [] inputs ≡ 0)
      turn_end none order =
          let no_record : records ≡ [] = ap (λ n. take n batch) none in
          let b = stock.block in
          let put : WroteAll record_of width b shown (b * width) records (hand made berths stock) (hand made berths stock) =
          record {
            blocks = [];
            wrote = Wrote-none shown (b * width) (hand made berths stock);
            quiet = refl;
            each = each-none (hand_slots shown (hand made berths stock));
            size = sym (ap length no_record);
            packed = packed_full b [] (All-nil (λ (b' : DeviceBlock S R). b'.count ≡ b));
            tight = (let z : 0 * b ≡ 0 = omega arith in omega (arith, z, turn_write.some));
            items = λ t. sym no_record;
          } in
          let batch_is = batch_merged cmp record_of width workers shown places most before inputs idle idle stock stock made berths batch count order at.may at.is_most at.took put (record { long = refl; blocks = at.took.may.sources.idle }) in (
            MergedOn-trans cmp record_of width workers shown o before (table inputs idle made berths stock) at.merged batch_is.merged,
            batch_is.end none,
          )

      module _ (idle' : List (Block R)) (berths' : List (DeviceBlock S R)) (stock' : Stock) (jobs : List (Job (DeviceBlock S R) R)) (staged : Staged width stock.block shown records idle idle' berths berths' stock stock' jobs) where
        few_jobs : length jobs ≤ workers
        few_jobs =
            let e : length (map buf_of jobs) ≡ length jobs = length-map jobs buf_of in
            let s : (workers + 1) * stock.block ≡ workers * stock.block + stock.block = add-mul workers 1 stock.block ∙ (let u : workers * stock.block + 1 * stock.block ≡ workers * stock.block + stock.block = omega arith in u) in
            let k : length jobs < workers + 1 = fewer_than (length jobs) (workers + 1) stock.block (omega (arith, s, turn_most, subst (λ n. n * stock.block < length records + stock.block) e staged.stand.tight)) in
            omega (arith, k)

        -- the jobs may be run
        pub turn_run : All (MayRun width (λ (b : DeviceBlock S R). shown b.slot)) jobs
        turn_run = may_run width stock.block shown jobs staged.write staged.sized staged.stand.each

        -- the next batch may be taken with the buffers that are left
        pub turn_take : MayTake shown width workers places (state [] inputs idle' stock')
        turn_take =
            record {
              eight = turn_eight;
              may = fetch_with shown width workers inputs idle idle' stock stock' at.took.may staged.rest.block (omega (arith, staged.room, staged.left)) staged.rest.buffers staged.blocks
                  (omega (arith, few_jobs, staged.idle_left, turn_buffers, turn_eight)) (omega (arith, staged.idle_left, at.took.may.sources.few_buffers));
              bench = at.may.bench;
            }

        module _ (done : List (Job (DeviceBlock S R) R)) (zip : AllZip (Ran cmp bytes_of record_of width stock.block shown) jobs done) where
          -- the buffers of the group are idle again
          same : map buf_of done ≡ map buf_of jobs
          same = same_bufs cmp bytes_of record_of width stock.block shown jobs done staged.write zip

          long : length (map buf_of done) ≡ length jobs
          long = ap length same ∙ length-map jobs buf_of

          pub done_long : length done ≡ length jobs
          done_long = sym (length_all_zip (Ran cmp bytes_of record_of width stock.block shown) jobs done zip)

          held : All (HasBlock stock.block) (map buf_of done)
          held = subst (All (HasBlock stock.block)) (sym same) (held_blocks stock.block (map buf_of jobs) staged.stand.each)

          same_back : SameBuffers stock.block idle (idle' ++ map buf_of done)
          same_back =
              record {
                long = omega (arith, length-append idle' (map buf_of done), long, staged.idle_left);
                blocks = All-append (HasBlock stock.block) idle' (map buf_of done) staged.blocks held;
              }

          -- the jobs may be taken
          pub turn_can : All (CanEnd record_of width shown) done
          turn_can = can_end_all cmp bytes_of record_of width stock.block shown jobs done staged.write zip staged.stand.some staged.stand.fit staged.sized

          -- and so many numbers fit
          pub turn_few_slots : length berths < 2 ^ 32 - 1 → length berths' + length done < 2 ^ 32 - 1
          turn_few_slots few = omega (arith, few, staged.left, done_long, few_jobs, turn_buffers, at.took.may.sources.few_buffers)

          all_stored : 0 < count → (length made.stored + length jobs) * stock.block < size_of made + length records + stock.block
          all_stored some =
              let b = stock.block in
              let full : AllFull b made.stored = turn_write.full (omega (arith, length-take count batch, at.took.within, some)) in
              let size0 : size_of made ≡ length made.stored * b = ap size_of turn_write.shape ∙ (let e : 0 + counts made.stored ≡ length made.stored * b = omega (arith, counts_full b made.stored full) in e) in
              let tight : length jobs * b < length records + b = subst (λ n. n * b < length records + b) (length-map jobs buf_of) staged.stand.tight in
              omega (arith, add-mul (length made.stored) (length jobs) b, size0, tight)

          pub turn_few_stored : 0 < count → length made.stored + length done < 2 ^ 32 - 1
          turn_few_stored some =
              let b = stock.block in
              let most' : (2 ^ 32 - 1) * b ≡ (2 ^ 32 - 2) * b + b = add-mul (2 ^ 32 - 2) 1 b ∙ (let u : (2 ^ 32 - 2) * b + 1 * b ≡ (2 ^ 32 - 2) * b + b = omega arith in u) in
              let fewer : length made.stored + length jobs < 2 ^ 32 - 1 = fewer_than (length made.stored + length jobs) (2 ^ 32 - 1) b (omega (arith, all_stored some, turn_write.few, most')) in
              omega (arith, fewer, done_long)

          pub turn_few_records : size_of made + items_in done < 2 ^ 64
          turn_few_records =
              let n : Block R → ℕ = λ b. length b.items in
              let sum : sum_by n (map buf_of jobs) ≡ length records = stand_sum (map buf_of jobs) ∙ ap length staged.stand.all in
              let cap : (2 ^ 32 - 2) * stock.block ≤ (2 ^ 32 - 2) * 65536 = mul-le (2 ^ 32 - 2) stock.block (2 ^ 32 - 2) 65536 (omega arith) turn_write.small in
              omega (arith, items_same done, ap (sum_by n) same, sum, turn_write.few, cap)

          module _ (inputs2 : List (External S R)) (idle2 : List (Block R)) (stock2 : Stock) (parts : PartsKept shown (state [] inputs idle' stock') (state [] inputs2 idle2 stock2)) (sources : AreSources shown width workers (state [] inputs2 idle2 stock2)) where
            block2 : stock2.block ≡ stock.block
            block2 = parts.kept.block ∙ staged.rest.block

            pub turn_few_idle : length idle2 + length done < 2 ^ 32 - 1
            turn_few_idle = omega (arith, parts.buffers, staged.idle_left, done_long, at.took.may.sources.few_buffers)

            after_long : length (idle2 ++ map buf_of done) ≡ length idle2 + length (map buf_of done)
            after_long = length-append idle2 (map buf_of done)

            after_blocks : All (HasBlock stock2.block) (idle2 ++ map buf_of done)
            after_blocks = All-append (HasBlock stock2.block) idle2 (map buf_of done) sources.idle (subst (λ k. All (HasBlock k) (map buf_of done)) (sym block2) held)

            after_few : external_buffers inputs2 + length (idle2 ++ map buf_of done) < 2 ^ 32 - 1
            after_few = omega (arith, after_long, parts.buffers, staged.idle_left, long, at.took.may.sources.few_buffers)

            -- the same with all buffers
            parts_after : PartsKept shown (state [] inputs (idle' ++ map buf_of done) stock') (state [] inputs2 (idle2 ++ map buf_of done) stock2)
            parts_after = parts_with shown width workers inputs inputs2 idle' idle2 (idle' ++ map buf_of done) (idle2 ++ map buf_of done) stock' stock2 (length (map buf_of done)) parts (length-append idle' (map buf_of done)) after_long

            sources_after : AreSources shown width workers (state [] inputs2 (idle2 ++ map buf_of done) stock2)
            sources_after = sources_with shown width workers inputs2 idle2 (idle2 ++ map buf_of done) stock2 stock2 sources refl (omega arith) refl after_blocks (omega (arith, sources.fronts, after_long)) after_few

            -- a write failed, and then the slot went back
            module _ (good : List (Job (DeviceBlock S R) R)) (bad : Job (DeviceBlock S R) R) (later : List (Job (DeviceBlock S R) R)) (is : done ≡ good ++ bad ∷ later) (all_good : All IsGood good) (is_bad : IsBad bad) (some : 0 < count) where
              abbrev left : List (DeviceBlock S R)
              left = bad.slot ∷ (berths' ++ map slot_of later)

              stopped : Merging shown width (length later + 1) before (table inputs2 (idle2 ++ map buf_of done) (appended made good) left stock2)
              stopped =
                  let b = at.stock0.block in
                  let got = at.took.taken in
                  let taken = enough_taken shown width workers before inputs idle stock (length records) at.may.ready got.parts at.took.may.none_lifted got.counted in
                  let mid = table inputs (idle' ++ map buf_of done) (appended made good) left stock' in
                  let tried = subst (λ k. Tried shown (k * width) (length later + 1) (hand made berths stock) (hand (appended made good) left stock') (map block_of good)) turn_block
                  (staged_failed cmp bytes_of record_of width stock.block shown records idle idle' berths berths' stock stock' jobs good bad later made turn_write.shape staged (subst (AllZip (Ran cmp bytes_of record_of width stock.block shown) jobs) is zip) all_good) in
                  let blocks = subst (λ k. All (HasBlock k) (idle' ++ map buf_of done)) turn_block same_back.blocks in
                  let stored : length (made.stored ++ map block_of good) + (length later + 1) ≡ length made.stored + length jobs = omega (arith, length-append made.stored (map block_of good), length-map good block_of, done_long, ap length is, length-append good (bad ∷ later)) in
                  let less : (length made.stored + length jobs) * stock.block < total before + stock.block = omega (arith, all_stored some, got.counted) in
                  let few : (length (made.stored ++ map block_of good) + (length later + 1)) * b < total before + b = subst (λ k. (length (made.stored ++ map block_of good) + (length later + 1)) * k < total before + k) turn_block (subst (λ n. n * stock.block < total before + stock.block) (sym stored) less) in
                  let eight : length inputs ≡ length at.inputs0 = sym (length_all_zip WentOn at.inputs0 inputs got.parts.went_on) in
                  let first = merging_of shown width workers (length later + 1) before (table inputs idle made berths stock) mid (map block_of good) at.may.ready refl refl got.parts at.took.may.sources taken.1 eight tried refl same_back.long blocks few in
                  let fit = went_fit b inputs inputs2 parts.went_on taken.0 in
                  let eight2 : length inputs2 ≡ length inputs = sym (length_all_zip WentOn inputs inputs2 parts.went_on) in
                  Merging-read shown width workers (length later + 1) before mid inputs2 (idle2 ++ map buf_of done) stock2 first parts_after sources_after fit.1 eight2

              -- the slot may go back
              pub stopped_room : 0 < stock2.slot_room
              stopped_room = omega (arith, stopped.room, at.may.ready.room)

              pub stopped_slot : IsSlot (stock2.block * width) (shown bad.slot.slot)
              stopped_slot =
                  let P : DeviceBlock S R → Type 0 = HasSlot shown (at.stock0.block * width) in
                  subst (λ k. IsSlot (k * width) (shown bad.slot.slot)) (sym (block2 ∙ turn_block)) (All-head P bad.slot (berths' ++ map slot_of later) (all_right P (made.stored ++ map block_of good) left stopped.sizes))

              pub turn_not_written : (stock3 : Stock) (number : ℕ) → GetsSlot stock2 (shown bad.slot.slot) stock3 → number ≡ (shown bad.slot.slot).number → MergeFailed shown width o (table inputs2 (idle2 ++ map buf_of done) (appended made good) (berths' ++ map slot_of later) stock3) (Device number)
              turn_not_written stock3 number gets number_is =
                  let n = table inputs2 (idle2 ++ map buf_of done) (appended made good) (berths' ++ map slot_of later) stock3 in
                  let fault = bad_fault cmp bytes_of record_of width stock.block shown jobs good later bad staged.write (subst (AllZip (Ran cmp bytes_of record_of width stock.block shown) jobs) is zip) is_bad in
                  let kept : stock3.kept ≡ stock2.kept ++ shown bad.slot.slot ∷ [] = ap (λ s. s.kept) gets in
                  let failed : MergeFailed shown width before n (Device number) =
                  record {
                    later = length later + 1;
                    merging = Merging-freed shown width (length later + 1) before inputs2 (idle2 ++ map buf_of done) (appended made good) bad.slot (berths' ++ map slot_of later) stock2 stock3 stopped gets stopped_room;
                    failed = subst (HasFailed number) (sym kept) (failed_there stock2.kept (shown bad.slot.slot) number (sym number_is) fault);
                  } in
                  MergeFailed-trans cmp record_of width workers shown o before n (Device number) at.merged failed

            -- the same, from what the end of the group tells
            pub turn_free : (berths3 : List (DeviceBlock S R)) (made2 : External S R) (failed : DeviceBlock S R) → GroupStopped done berths' berths3 made made2 failed → 0 < count → (0 < stock2.slot_room) × IsSlot (stock2.block * width) (shown failed.slot)
            turn_free berths3 made2 failed (good, bad, later, all, slots_is, is) some = (
              stopped_room good bad later all is.all_good is.is_bad some,
              subst (λ (b : DeviceBlock S R). IsSlot (stock2.block * width) (shown b.slot)) (sym is.failed_is) (stopped_slot good bad later all is.all_good is.is_bad some),
            )

            pub turn_stopped :
                (berths3 : List (DeviceBlock S R)) (made2 : External S R) (failed : DeviceBlock S R) → GroupStopped done berths' berths3 made made2 failed → 0 < count
                → (idle3 : List (Block R)) → idle3 ≡ idle2 ++ map buf_of done → (stock3 : Stock) (number : ℕ) → GetsSlot stock2 (shown failed.slot) stock3 → number ≡ (shown failed.slot).number
                → MergeFailed shown width o (table inputs2 idle3 made2 berths3 stock3) (Device number)
            turn_stopped berths3 made2 failed (good, bad, later, all, slots_is, is) some idle3 idle_is stock3 number gets number_is =
                let gets' = subst (λ (b : DeviceBlock S R). GetsSlot stock2 (shown b.slot) stock3) is.failed_is gets in
                let number' : number ≡ (shown bad.slot.slot).number = number_is ∙ ap (λ (b : DeviceBlock S R). (shown b.slot).number) is.failed_is in
                subst (λ bs. MergeFailed shown width o (table inputs2 bs made2 berths3 stock3) (Device number)) (sym idle_is)
                (subst (λ m. MergeFailed shown width o (table inputs2 (idle2 ++ map buf_of done) m berths3 stock3) (Device number)) (sym is.array_is)
                (subst (λ bs. MergeFailed shown width o (table inputs2 (idle2 ++ map buf_of done) (appended made good) bs stock3) (Device number)) (sym slots_is)
                (turn_not_written good bad later all is.all_good is.is_bad some stock3 number gets' number')))

            module _ (order : IsStrictWeakOrder (is_before cmp)) (good : All IsGood done) where
              abbrev written : Table S R
              written = table inputs (idle' ++ map buf_of done) (appended made done) berths' stock'

              -- the batch is written
              turn_written : MergedOn cmp record_of width workers shown o written
              turn_written =
                  let put = staged_written cmp bytes_of record_of width stock.block shown records idle idle' berths berths' stock stock' jobs done made turn_write.shape staged same zip good in
                  MergedOn-trans cmp record_of width workers shown o before written at.merged
                  (batch_merged cmp record_of width workers shown places most before inputs idle (idle' ++ map buf_of done) stock stock' (appended made done) berths' batch count order at.may at.is_most at.took put same_back).merged

              -- and the next one was taken
              pub turn_next :
                  (batch2 : List R) (count2 : ℕ) → length batch2 ≡ most → TookBatch cmp record_of width workers shown (state [] inputs idle' stock') (state [] inputs2 idle2 stock2) batch2 count2
                  → Turn inputs2 (appended made done) berths' (idle2 ++ map buf_of done) stock2 batch2 count2
              turn_next batch2 count2 is_most took =
                  let block : stock'.block ≡ at.stock0.block = staged.rest.block ∙ turn_block in
                  record {
                    inputs0 = inputs;
                    idle0 = idle' ++ map buf_of done;
                    stock0 = stock';
                    merged = turn_written;
                    may = record { eight = turn_eight; ready = turn_written.ready; worker = at.may.worker; bench = at.may.bench; batch = at.may.batch ∙ ap (λ k. workers * k) (sym block) };
                    took = record {
                      within = took.within;
                      taken = fetched_with shown width workers cmp record_of None inputs inputs2 idle' idle2 (idle' ++ map buf_of done) (idle2 ++ map buf_of done) stock' stock2 (length (map buf_of done)) (take count2 batch2) took.taken (length-append idle' (map buf_of done)) after_long;
                      all = took.all;
                      may = record { sources = sources_after; none_lifted = took.may.none_lifted };
                    };
                    is_most = is_most;
                  }

              -- or a read for the next one failed
              pub turn_not_read :
                  (fault : StoreFault) → ReadFailed shown width workers (state [] inputs idle' stock') (state [] inputs2 idle2 stock2) fault
                  → MergeFailed shown width o (table inputs2 (idle2 ++ map buf_of done) (appended made done) berths' stock2) fault
              turn_not_read fault failed =
                  MergeFailed-trans cmp record_of width workers shown o written (table inputs2 (idle2 ++ map buf_of done) (appended made done) berths' stock2) fault turn_written
                  (batch_not_read cmp record_of width workers shown written inputs2 (idle2 ++ map buf_of done) stock2 fault turn_written.ready (record { sources = sources_after; failed = failed.failed; parts = parts_after }))
