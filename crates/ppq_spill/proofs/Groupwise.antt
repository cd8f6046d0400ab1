-- A run that is written group by group.
use Rattle.std.proofs.Common.{◌≡◌, ℕ, zero, suc, Ok, ◌+◌, ◌*◌, ◌<◌, ◌≤◌, List, [], ◌∷◌, ◌++◌, length, map, min, take, drop, sum_by, All, IsSome, refl, sym, ap, ◌∙◌, subst, arith, length-append}
use Rattle.std.specs.List.{AllZip}
use Rattle.std.proofs.lemmas.Nat.{mul-le}
use Rattle.std.proofs.lemmas.Result.{IfOk-at_ok}
use Rattle.std.proofs.lemmas.List.{take-append-le, length-map}
use Rattle.std.proofs.lemmas.List.Elements.{All-cons, All-head, All-tail, All-nil, All-append}
use Rattle.std.specs.Cmp.{IsStrictWeakOrder}
use Rattle.std.specs.declared.cmp.Ordering.{Ordering}
use Rattle.ppq_fetch.specs.ppq_record.Order.{is_before}
use Rattle.ppq_fetch.specs.ppq_record.Bag.{first_of}
use Rattle.ppq_fetch.specs.ppq_block.Block.{Block, holding}
use Rattle.ppq_fetch.specs.ppq_outside.Shown.{Shown}
use Rattle.ppq_fetch.specs.ppq_outside.Told.{next_count}
use Rattle.ppq_fetch.specs.ppq_lane.Jobs.{MayRun}
use Rattle.ppq_fetch.specs.ppq_lane.declared.job.Job.{Job}
use Rattle.ppq_fetch.specs.ppq_array.declared.berth.DeviceBlock.{DeviceBlock}
use Rattle.ppq_fetch.specs.ppq_array.Run.{Run, run_of, buffers_of}
use Rattle.ppq_fetch.specs.ppq_array.External.{External, external, size_of}
use Rattle.ppq_fetch.specs.ppq_array.Owner.{HasSlot, HasBlock, slots_shown}
use Rattle.ppq_fetch.proofs.ppq_array.Noted.{all_left, all_right, take_whole}
use Rattle.ppq_spill.specs.declared.body.PassBody.{PassBody}
use Rattle.ppq_spill.specs.declared.new_array.NewArray.{NewArray}
use Rattle.ppq_spill.specs.Writing.{SameBuffers, WriteFailed, Writing, left_in}
use Rattle.ppq_spill.specs.Grouping.{MergedInto, FilledGroup, Underway, GroupStopped, CanEnd, appended, items_in, slot_of, buf_of, IsWrite, IsGood}
use Rattle.ppq_spill.proofs.Filled.{MergedInto-buffers, MergedInto-count, MergedInto-holding, MergedInto-some, MergedInto-fit}
use Rattle.ppq_spill.proofs.Grouped.{Ran, wrote, told_items, same_bufs, group_written, group_failed}
use Rattle.ppq_spill.proofs.Jobs.{items_same, may_run}
use Rattle.ppq_spill.proofs.Keeping.{slots_long}
use Rattle.ppq_spill.proofs.Written.{some_is, grew_written, unread_after}

-- a slice that was lent by a list of its length
pub lent_back : {X : Type 0} (n : ℕ) (xs zs : List X) → n ≡ length xs → take n (xs ++ zs) ≡ xs
lent_back n xs zs e = ap (λ k. take k (xs ++ zs)) e ∙ take-append-le (length xs) xs zs (omega arith) ∙ take_whole xs

some_first : {R : Type 0} (xs : List R) → 0 < length xs → IsSome (first_of xs)
some_first [] h = absurd (omega (arith, h))
some_first (x ∷ xs) h = refl

module _ {R : Type 0} (block : ℕ) where
  abbrev pub HasRecord : Block R → Type 0
  HasRecord b = 0 < length b.items

  abbrev pub Fits : Block R → Type 0
  Fits b = length b.items ≤ block

  pub held_blocks : (bs : List (Block R)) → All (λ (b : Block R). b ≡ holding block b.items) bs → All (HasBlock block) bs
  held_blocks [] held = All-nil (HasBlock block)
  held_blocks (b ∷ bs) held =
      let Held : Block R → Type 0 = λ b. b ≡ holding block b.items in
      All-cons (HasBlock block) b bs (ap (λ (b : Block R). b.block) (All-head Held b bs held)) (held_blocks bs (All-tail Held b bs held))

  -- each buffer of a group has a record
  group_some :
      (cmp : R → R → Ordering) (filled : List (Block R)) (group slots : ℕ) (runs : List (Run R)) (rest : List R) (runs' : List (Run R)) (rest' : List R) → 1 ≤ block → length filled ≡ min group slots
      → (0 < slots → slots * block < length (left_in runs rest) + block) → MergedInto cmp block filled runs rest runs' rest' → All HasRecord filled
  group_some cmp [] group slots runs rest runs' rest' some count least merged = All-nil HasRecord
  group_some cmp (b ∷ bs) group zero runs rest runs' rest' some count least merged = absurd (omega (arith, count))
  group_some cmp (b ∷ bs) group (suc n) runs rest runs' rest' some count least merged = MergedInto-some cmp block (b ∷ bs) (suc n) runs rest runs' rest' some (omega (arith, count)) (least (omega arith)) merged

module _ {S R : Type 0} (cmp : R → R → Ordering) (bytes_of : R → List ℕ) (record_of : List ℕ → R) (width block : ℕ) (shown : S → Shown) where
  abbrev Sized : DeviceBlock S R → Type 0
  Sized = HasSlot {S = S} {R = R} shown (block * width)

  abbrev AllRan : List (Job (DeviceBlock S R) R) → List (Job (DeviceBlock S R) R) → Type 0
  AllRan js ds = AllZip (Ran cmp bytes_of record_of width block shown) js ds

  -- a job that was done may be taken
  one_can_end : (j d : Job (DeviceBlock S R) R) → IsWrite j → Ran cmp bytes_of record_of width block shown j d → HasRecord block j.buf → Fits block j.buf → Sized j.slot → CanEnd record_of width shown d
  one_can_end j d is done some fit sized =
      let w = wrote cmp bytes_of record_of width block shown j d is done in
      let grew = grew_written bytes_of record_of width shown done.answer (shown j.slot.slot) (shown d.slot.slot) j.buf d.buf w in
      let has : 0 < length d.buf.items = subst (λ (b : Block R). 0 < length b.items) (sym w.same) some in
      let few : length d.buf.items ≤ block = subst (λ (b : Block R). length b.items ≤ block) (sym w.same) fit in
      let once : IsGood d → (shown d.slot.slot).writes ≡ next_count (shown j.slot.slot).writes =
      λ good. IfOk-at_ok (λ _. (shown d.slot.slot).writes ≡ next_count (shown j.slot.slot).writes) (some_is (Ok good.0) done.answer (Ok good.0) (sym done.done ∙ good.1)) w.wrote.writes.ok in
      record {
        done = subst IsSome (sym done.done) refl;
        some = has;
        labelled = λ good.
            record {
              some = has;
              fits = subst (λ n. length d.buf.items * width ≤ n) (sym (grew.size ∙ sized.size)) (mul-le (length d.buf.items) width block width few (omega arith));
              labelled = some_first d.buf.items has;
              unread = unread_after (shown j.slot.slot) (shown d.slot.slot) (once good) w.wrote.reads sized.spent;
              first = λ t. ap (λ (b : Block R). first_of b.items) w.same ∙ ap first_of (sym (told_items cmp bytes_of record_of width block shown j d is done good (grew.told t)));
            };
      }

  pub can_end_all :
      (js ds : List (Job (DeviceBlock S R) R)) → All IsWrite js → AllRan js ds → All (HasRecord block) (map buf_of js) → All (Fits block) (map buf_of js) → All Sized (map slot_of js) → All (CanEnd record_of width shown) ds
  can_end_all [] [] is zip some fit sized = All-nil (CanEnd record_of width shown)
  can_end_all [] (d ∷ ds) is zip some fit sized = absurd zip
  can_end_all (j ∷ js) [] is zip some fit sized = absurd zip
  can_end_all (j ∷ js) (d ∷ ds) is zip some fit sized =
      All-cons (CanEnd record_of width shown) d ds
      (one_can_end j d (All-head IsWrite j js is) zip.0 (All-head (HasRecord block) j.buf (map buf_of js) some) (All-head (Fits block) j.buf (map buf_of js) fit) (All-head Sized j.slot (map slot_of js) sized))
      (can_end_all js ds (All-tail IsWrite j js is) zip.1 (All-tail (HasRecord block) j.buf (map buf_of js) some) (All-tail (Fits block) j.buf (map buf_of js) fit) (All-tail Sized j.slot (map slot_of js) sized))

  -- the same blocks, with runs of which more was taken
  with_runs :
      (slots0 : List (DeviceBlock S R)) (runs0 : List (Run R)) (slots : List (DeviceBlock S R)) (runs runs' : List (Run R)) (array : External S R) (failed : DeviceBlock S R)
      → WriteFailed shown (block * width) slots0 runs0 slots runs array failed → map buffers_of runs' ≡ map buffers_of runs → WriteFailed shown (block * width) slots0 runs0 slots runs' array failed
  with_runs slots0 runs0 slots runs runs' array failed is same = record { sizes = is.sizes; shape = is.shape; went = is.went; buffers = same ∙ is.buffers; first = is.first }

  module _ (group : ℕ) (sorted : List R) (runs0 : List (Run R)) (idle0 : List (Block R)) (slots0 : List (DeviceBlock S R)) where
    abbrev Goes : PassBody S R → NewArray S R → ℕ → List (Block R) → Type 0
    Goes body making at filled = Underway cmp record_of width block group shown sorted runs0 idle0 slots0 body making at filled

    abbrev Wrote : List (DeviceBlock S R) → List (Run R) → List R → External S R → Type 0
    Wrote slots runs rest array = Writing cmp record_of width block shown slots0 runs0 sorted slots runs rest array

    -- the first group is filled
    pub underway_begin :
        (old body : PassBody S R) (making : NewArray S R) (at count : ℕ) (filled : List (Block R)) → old.lanes.idle ≡ idle0 → old.runs.internal.items ≡ runs0 → making.berths ≡ slots0 → count ≡ min group (length making.berths) → All (HasBlock block) idle0
        → Wrote slots0 runs0 sorted making.made → FilledGroup cmp count sorted 0 at old body filled → Goes body making at filled
    underway_begin old body making at count filled idle runs slots few blocks writing is =
        let held = subst (All (HasBlock block)) (sym idle) blocks in
        record {
          runs_then = runs0;
          rest_then = sorted;
          writing = subst (λ bs. Wrote bs runs0 sorted making.made) (sym slots) writing;
          merged = subst (λ rs. MergedInto cmp block filled rs sorted body.runs.internal.items (drop at sorted)) runs (is.merged block held);
          count = is.count_is ∙ few;
          idle_left = omega (arith, is.left, is.count_is, ap length idle);
          blocks = is.blocks block held;
        }

    module _ (body : PassBody S R) (making : NewArray S R) (at : ℕ) (filled : List (Block R)) (goes : Goes body making at filled) (slots' : List (DeviceBlock S R)) (jobs : List (Job (DeviceBlock S R) R)) (cut : making.berths ≡ map slot_of jobs ++ slots') (bufs : map buf_of jobs ≡ filled) (is : All IsWrite jobs) where
      abbrev rest : List R
      rest = drop at sorted

      group_sizes : All Sized (map slot_of jobs)
      group_sizes = all_left Sized (map slot_of jobs) slots' (subst (All Sized) cut (all_right Sized making.made.stored making.berths goes.writing.sizes))

      group_held : All (λ (b : Block R). b ≡ holding block b.items) filled
      group_held = MergedInto-holding cmp block filled goes.runs_then goes.rest_then body.runs.internal.items rest goes.merged

      -- its jobs may be run
      pub group_may_run : All (MayRun width (λ (b : DeviceBlock S R). shown b.slot)) jobs
      group_may_run = may_run width block shown jobs is group_sizes (subst (All (λ (b : Block R). b ≡ holding block b.items)) (sym bufs) group_held)

      module _ (done : List (Job (DeviceBlock S R) R)) (zip : AllRan jobs done) where
        bufs_back : map buf_of done ≡ filled
        bufs_back = same_bufs cmp bytes_of record_of width block shown jobs done is zip ∙ bufs

        pub group_long : length done ≡ length filled
        group_long = let e : length done ≡ length filled = omega (arith, length-map done buf_of, ap length bufs_back) in e

        -- their slots are among those that there were
        pub group_slots : length making.made.stored + (length done + length slots') ≡ length slots0
        group_slots =
            let made = slots_shown shown making.made.stored in
            omega (
              arith,
              goes.writing.went.went.same.length,
              length-append made (slots_shown shown making.berths),
              slots_long shown making.made.stored,
              slots_long shown making.berths,
              slots_long shown slots0,
              ap length cut,
              length-append (map slot_of jobs) slots',
              length-map jobs slot_of,
              length-map jobs buf_of,
              ap length bufs,
              group_long,
            )

        -- each that was done may be taken
        pub group_can_end : 1 ≤ block → All (CanEnd record_of width shown) done
        group_can_end some =
            let has = group_some block cmp filled group (length making.berths) goes.runs_then goes.rest_then body.runs.internal.items rest some goes.count goes.writing.least goes.merged in
            let fit = MergedInto-fit cmp block filled goes.runs_then goes.rest_then body.runs.internal.items rest goes.merged in
            can_end_all jobs done is zip (subst (All (HasRecord block)) (sym bufs) has) (subst (All (Fits block)) (sym bufs) fit) group_sizes

        -- they have no more records than were left
        pub group_few : size_of making.made + items_in done ≤ length (left_in runs0 sorted)
        group_few =
            let n : Block R → ℕ = λ b. length b.items in
            omega (arith, goes.writing.size, MergedInto-count cmp block filled goes.runs_then goes.rest_then body.runs.internal.items rest goes.merged, items_same done, ap (sum_by n) bufs_back)

        module _ (body' : PassBody S R) (at' count : ℕ) (filled' : List (Block R)) (next : FilledGroup cmp count sorted at at' body body' filled') where
          blocks_back : All (HasBlock block) (body'.lanes.idle ++ map buf_of done)
          blocks_back = All-append (HasBlock block) body'.lanes.idle (map buf_of done) (next.blocks block goes.blocks) (subst (All (HasBlock block)) (sym bufs_back) (held_blocks block filled group_held))

          -- all of them were written
          pub underway_next :
              IsStrictWeakOrder (is_before cmp) → 1 ≤ block → All IsGood done → count ≡ min group (length slots')
              → (end : PassBody S R) (making' : NewArray S R) → end.lanes.idle ≡ body'.lanes.idle ++ map buf_of done → end.runs.internal.items ≡ body'.runs.internal.items → making'.berths ≡ slots' → making'.made ≡ appended making.made done → Goes end making' at' filled'
          underway_next o some good few end making' idle runs slots array =
              let rs = body.runs.internal.items in
              let before = subst (λ bs. Wrote bs goes.runs_then goes.rest_then making.made) cut goes.writing in
              let into = subst (λ bs. MergedInto cmp block bs goes.runs_then goes.rest_then rs rest) (sym bufs) goes.merged in
              let put = group_written cmp bytes_of record_of width block shown slots0 runs0 sorted o some jobs done slots' goes.runs_then goes.rest_then rs rest making.made is zip good before into in
              let made = array ∙ ap (λ (a : External S R). appended a done) goes.writing.shape in
              record {
                runs_then = rs;
                rest_then = rest;
                writing = subst (λ bs. Wrote bs rs rest making'.made) (sym slots) (subst (λ a. Wrote slots' rs rest a) (sym made) put);
                merged = subst (λ xs. MergedInto cmp block filled' rs rest xs (drop at' sorted)) (sym runs) (next.merged block goes.blocks);
                count = next.count_is ∙ few ∙ ap (λ bs. min group (length bs)) (sym slots);
                idle_left = omega (arith, goes.idle_left, next.left, next.count_is, ap length idle, length-append body'.lanes.idle (map buf_of done), ap length bufs_back);
                blocks = subst (All (HasBlock block)) (sym idle) blocks_back;
              }

          -- all buffers are idle again
          pub underway_back : (end : List (Block R)) → end ≡ (body'.lanes.idle ++ map buf_of done) ++ filled' → SameBuffers block idle0 end
          underway_back end e =
              let held = held_blocks block filled' (MergedInto-holding cmp block filled' body.runs.internal.items rest body'.runs.internal.items (drop at' sorted) (next.merged block goes.blocks)) in
              record {
                long = omega (arith, goes.idle_left, next.left, next.count_is, ap length e, length-append (body'.lanes.idle ++ map buf_of done) filled', length-append body'.lanes.idle (map buf_of done), ap length bufs_back);
                blocks = subst (All (HasBlock block)) (sym e) (All-append (HasBlock block) (body'.lanes.idle ++ map buf_of done) filled' blocks_back held);
              }

          -- one of them failed
          pub underway_failed :
              IsStrictWeakOrder (is_before cmp) → 1 ≤ block → (slots'' : List (DeviceBlock S R)) (array : External S R) (failed : DeviceBlock S R) → GroupStopped done slots' slots'' making.made array failed
              → WriteFailed shown (block * width) slots0 runs0 slots'' body'.runs.internal.items array failed
          underway_failed o some slots'' array failed (good, bad, later, all, slots_is, stopped) =
              let rs = body.runs.internal.items in
              let before = subst (λ bs. Wrote bs goes.runs_then goes.rest_then making.made) cut goes.writing in
              let into = subst (λ bs. MergedInto cmp block bs goes.runs_then goes.rest_then rs rest) (sym bufs) goes.merged in
              let put = group_failed cmp bytes_of record_of width block shown slots0 runs0 sorted o some jobs good bad later slots' goes.runs_then goes.rest_then rs rest making.made is (subst (AllRan jobs) all zip) stopped.all_good stopped.is_bad before into in
              let made = stopped.array_is ∙ ap (λ (a : External S R). appended a good) goes.writing.shape in
              with_runs slots0 runs0 slots'' rs body'.runs.internal.items array failed
              (subst (λ s. WriteFailed shown (block * width) slots0 runs0 slots'' rs array s) (sym stopped.failed_is)
              (subst (λ a. WriteFailed shown (block * width) slots0 runs0 slots'' rs a bad.slot) (sym made)
              (subst (λ bs. WriteFailed shown (block * width) slots0 runs0 bs rs (appended (external 0 (run_of [] 0 []) [] making.made.stored) good) bad.slot) (sym slots_is) put)))
              (MergedInto-buffers cmp block filled' rs rest body'.runs.internal.items (drop at' sorted) (next.merged block goes.blocks))
