-- A group of jobs that were run: its blocks are the next ones of a run.
use Rattle.std.proofs.Common.{◌≡◌, ℕ, ◌+◌, ◌*◌, ◌<◌, ◌≤◌, List, [], ◌∷◌, ◌++◌, length, map, sum_by, All, Result, Ok, Err, refl, sym, ap, ◌∙◌, subst, arith, append_assoc, length-append, append-nil}
use Rattle.std.specs.List.{AllZip}
use Rattle.std.proofs.lemmas.List.{map-append}
use Rattle.std.proofs.lemmas.List.Sums.{sum_by-cons, sum_by-append}
use Rattle.std.proofs.lemmas.List.Elements.{All-cons, All-head, All-tail, All-append}
use Rattle.std.proofs.lemmas.Result.{IfOk-at_ok}
use Rattle.std.specs.Cmp.{IsStrictWeakOrder}
use Rattle.std.specs.declared.cmp.Ordering.{Ordering}
use Rattle.ppq_fetch.specs.ppq_record.Order.{is_before}
use Rattle.ppq_fetch.specs.ppq_block.Block.{Block}
use Rattle.ppq_fetch.specs.ppq_block.Told.{records_told}
use Rattle.ppq_fetch.specs.ppq_outside.Shown.{Shown, Tells}
use Rattle.ppq_fetch.specs.ppq_outside.Told.{Counts, next_count}
use Rattle.ppq_fetch.specs.ppq_lane.Jobs.{IsDone, IsWrittenFrom, Does}
use Rattle.ppq_fetch.specs.ppq_lane.declared.job.Job.{Job}
use Rattle.ppq_fetch.specs.ppq_array.declared.berth.DeviceBlock.{DeviceBlock}
use Rattle.ppq_fetch.specs.ppq_array.Run.{Run, run_of, buffers_of}
use Rattle.ppq_fetch.specs.ppq_array.External.{External, external, block_items}
use Rattle.ppq_fetch.specs.ppq_array.Owner.{slots_shown, HasSlot}
use Rattle.ppq_fetch.specs.ppq_array.Kept.{MoreWrites}
use Rattle.ppq_fetch.proofs.ppq_array.Noted.{all_left, all_right}
use Rattle.ppq_spill.specs.Writing.{Grew, BlockStored, WriteFailed, Writing}
use Rattle.ppq_spill.specs.Grouping.{MergedInto, slot_of, buf_of, block_of, IsWrite, IsGood, IsBad}
use Rattle.ppq_spill.specs.Went.{WentWriting, AtLeast}
use Rattle.ppq_spill.proofs.Filled.{MergedInto-buffers}
use Rattle.ppq_spill.proofs.Going.{WentWriting-more, WentWriting-placed, WentWriting-weaker}
use Rattle.ppq_spill.proofs.Keeping.{slots_long}
use Rattle.ppq_spill.proofs.Transfers.{one_slot, one_least}
use Rattle.ppq_spill.proofs.Writings.{Writing-more}
use Rattle.ppq_spill.proofs.Written.{some_is, grew_written, grown_slot, block_stored, block_failed}

-- a count that rose once at most
one_more : {T E : Type 0} (answer : Result T E) (before now : ℕ) → Counts answer before now → now ≤ before + 1
one_more (Ok u) before now c = let e : now ≡ next_count before = c.ok in omega (arith, e)
one_more (Err x) before now c = let e : now ≡ before = c.err in omega (arith, e)

-- a slot that was called once, to write
pub record WroteOnce (before now : Shown) : Type 0 where
  pub grew : Grew before now
  pub calls : MoreWrites 1 (before ∷ []) (now ∷ [])

-- each of some slots that stand between others was called
pub went_each :
    (base xs ys ys' zs : List Shown) (n m : ℕ) → m ≡ n + length ys → WentWriting n base (xs ++ ys ++ zs) → AllZip WroteOnce ys ys' → WentWriting m base (xs ++ ys' ++ zs)
went_each base xs [] [] zs n m e before zip = subst (λ k. WentWriting k base (xs ++ [] ++ zs)) (let s : n ≡ m = omega (arith, e) in s) before
went_each base xs [] (y ∷ ys') zs n m e before zip = absurd zip
went_each base xs (y ∷ ys) [] zs n m e before zip = absurd zip
went_each base xs (y ∷ ys) (y' ∷ ys') zs n m e before zip =
    let here : WentWriting (n + 1) base (xs ++ y' ∷ (ys ++ zs)) = WentWriting-more base xs (ys ++ zs) y y' n 1 (n + 1) (subst (WentWriting n base) (append_assoc xs (y ∷ ys) zs) before) zip.0.grew zip.0.calls refl in
    let next = went_each base (xs ++ y' ∷ []) ys ys' zs (n + 1) m (omega (arith, e)) (subst (WentWriting (n + 1) base) (sym (around ys)) here) zip.1 in
    subst (WentWriting m base) (around ys' ∙ sym (append_assoc xs (y' ∷ ys') zs)) next
  where
    around : (us : List Shown) → ((xs ++ y' ∷ []) ++ us) ++ zs ≡ xs ++ y' ∷ (us ++ zs)
    around us = append_assoc (xs ++ y' ∷ []) us zs ∙ append_assoc xs (y' ∷ []) (us ++ zs)

module _ {S R : Type 0} (cmp : R → R → Ordering) (bytes_of : R → List ℕ) (record_of : List ℕ → R) (width block : ℕ) (shown : S → Shown) where
  abbrev pub Ran : Job (DeviceBlock S R) R → Job (DeviceBlock S R) R → Type 0
  Ran j d = IsDone bytes_of record_of width (λ (b : DeviceBlock S R). shown b.slot) j d

  -- what a job that writes did
  pub wrote : (j d : Job (DeviceBlock S R) R) → IsWrite j → (done : Ran j d) → IsWrittenFrom bytes_of record_of width done.answer (shown j.slot.slot) (shown d.slot.slot) j.buf d.buf
  wrote j d is done = subst (λ k. Does bytes_of record_of width k done.answer (shown j.slot.slot) (shown d.slot.slot) j.buf d.buf) is done.does

  called : (j d : Job (DeviceBlock S R) R) → IsWrite j → Ran j d → WroteOnce (shown j.slot.slot) (shown d.slot.slot)
  called j d is done =
      let w = wrote j d is done in
      record {
        grew = grew_written bytes_of record_of width shown done.answer (shown j.slot.slot) (shown d.slot.slot) j.buf d.buf w;
        calls = one_slot 1 (shown j.slot.slot) (shown d.slot.slot) (one_more done.answer (shown j.slot.slot).writes (shown d.slot.slot).writes w.wrote.writes) (omega (arith, w.wrote.reads));
      }

  pub called_all : (js ds : List (Job (DeviceBlock S R) R)) → All IsWrite js → AllZip Ran js ds → AllZip WroteOnce (slots_shown shown (map slot_of js)) (slots_shown shown (map slot_of ds))
  called_all [] [] is zip = tt
  called_all [] (d ∷ ds) is zip = absurd zip
  called_all (j ∷ js) [] is zip = absurd zip
  called_all (j ∷ js) (d ∷ ds) is zip = (called j d (All-head IsWrite j js is) zip.0, called_all js ds (All-tail IsWrite j js is) zip.1)

  -- buffers are as they were
  pub same_bufs : (js ds : List (Job (DeviceBlock S R) R)) → All IsWrite js → AllZip Ran js ds → map buf_of ds ≡ map buf_of js
  same_bufs [] [] is zip = refl
  same_bufs [] (d ∷ ds) is zip = absurd zip
  same_bufs (j ∷ js) [] is zip = absurd zip
  same_bufs (j ∷ js) (d ∷ ds) is zip =
      ap (λ b. b ∷ map buf_of ds) (wrote j d (All-head IsWrite j js is) zip.0).same ∙ ap (λ bs. j.buf ∷ bs) (same_bufs js ds (All-tail IsWrite j js is) zip.1)

  -- and the slots are those of a supply still
  abbrev Sized : DeviceBlock S R → Type 0
  Sized = HasSlot {S = S} {R = R} shown (block * width)

  pub sized_all : (js ds : List (Job (DeviceBlock S R) R)) → All IsWrite js → AllZip Ran js ds → All Sized (map slot_of js) → All Sized (map slot_of ds)
  sized_all [] [] is zip sizes = sizes
  sized_all [] (d ∷ ds) is zip sizes = absurd zip
  sized_all (j ∷ js) [] is zip sizes = absurd zip
  sized_all (j ∷ js) (d ∷ ds) is zip sizes =
      All-cons Sized d.slot (map slot_of ds) (grown_slot (block * width) (shown j.slot.slot) (shown d.slot.slot) (called j d (All-head IsWrite j js is) zip.0).grew (All-head Sized j.slot (map slot_of js) sizes))
      (sized_all js ds (All-tail IsWrite j js is) zip.1 (All-tail Sized j.slot (map slot_of js) sizes))

  abbrev written_run : List (DeviceBlock S R) → External S R
  written_run blocks = external 0 (run_of [] 0 []) [] blocks

  stored_by : (j d : Job (DeviceBlock S R) R) → IsWrite j → Ran j d → IsGood d → (array : External S R) → array ≡ written_run array.stored → BlockStored record_of width shown j.slot.slot j.buf.items array (written_run (array.stored ++ block_of d ∷ []))
  stored_by j d is done (u, good) array shape =
      let w = wrote j d is done in
      let e : done.answer ≡ Ok u = some_is (Ok u) done.answer (Ok u) (sym done.done ∙ good) in
      block_stored bytes_of record_of width shown done.answer u e j.slot.slot d.slot.slot j.buf d.buf w array (written_run (array.stored ++ block_of d ∷ [])) (block_of d)
      (ap (λ (a : External S R). external a.level a.loaded [] (array.stored ++ block_of d ∷ [])) (sym shape)) refl (ap (λ b. length b.items) w.same)

  -- a good job wrote its slot, and that call did not fail
  pub good_write : (j d : Job (DeviceBlock S R) R) → IsWrite j → Ran j d → IsGood d → 1 ≤ (shown d.slot.slot).writes
  good_write j d is done (u, good) =
      let w = wrote j d is done in
      let e : done.answer ≡ Ok u = some_is (Ok u) done.answer (Ok u) (sym done.done ∙ good) in
      let once : (shown d.slot.slot).writes ≡ next_count (shown j.slot.slot).writes = IfOk-at_ok (λ _. (shown d.slot.slot).writes ≡ next_count (shown j.slot.slot).writes) e w.wrote.writes.ok in
      omega (arith, once)

  pub good_each : (j d : Job (DeviceBlock S R) R) → IsWrite j → Ran j d → IsGood d → AtLeast 1 (shown j.slot.slot ∷ []) (shown d.slot.slot ∷ [])
  good_each j d is done (u, good) =
      let w = wrote j d is done in
      let e : done.answer ≡ Ok u = some_is (Ok u) done.answer (Ok u) (sym done.done ∙ good) in
      one_least (shown j.slot.slot) (shown d.slot.slot) (IfOk-at_ok (λ _. (shown d.slot.slot).writes ≡ next_count (shown j.slot.slot).writes) e w.wrote.writes.ok)

  pub good_quiet : (j d : Job (DeviceBlock S R) R) → IsWrite j → Ran j d → IsGood d → (shown d.slot.slot).faults ≡ (shown j.slot.slot).faults
  good_quiet j d is done (u, good) =
      let w = wrote j d is done in
      let e : done.answer ≡ Ok u = some_is (Ok u) done.answer (Ok u) (sym done.done ∙ good) in
      IfOk-at_ok (λ _. (shown d.slot.slot).faults ≡ (shown j.slot.slot).faults) e w.wrote.cause.ok

  -- the slot of a job that failed has a failed call
  pub bad_fault : (js good later : List (Job (DeviceBlock S R) R)) (bad : Job (DeviceBlock S R) R) → All IsWrite js → AllZip Ran js (good ++ bad ∷ later) → IsBad bad → 0 < (shown bad.slot.slot).faults
  bad_fault [] [] later bad is zip failed = absurd zip
  bad_fault [] (d ∷ ds) later bad is zip failed = absurd zip
  bad_fault (j ∷ js) (d ∷ ds) later bad is zip failed = bad_fault js ds later bad (All-tail IsWrite j js is) zip.1 failed
  bad_fault (j ∷ js) [] later bad is zip (x, e) =
      let one = zip.0 in
      let w = wrote j bad (All-head IsWrite j js is) one in
      let err : one.answer ≡ Err x = some_is (Err x) one.answer (Err x) (sym one.done ∙ e) in
      omega (arith, (block_failed bytes_of record_of width shown one.answer x err j.slot.slot bad.slot j.buf bad.buf w (external 0 (run_of [] 0 []) [] [])).rose)

  -- the slot of a good job holds its records
  pub told_items : (j d : Job (DeviceBlock S R) R) → IsWrite j → Ran j d → IsGood d → Tells (shown j.slot.slot) → block_items record_of width shown (block_of d) ≡ j.buf.items
  told_items j d is done (u, good) t =
      let w = wrote j d is done in
      let e : done.answer ≡ Ok u = some_is (Ok u) done.answer (Ok u) (sym done.done ∙ good) in
      let back : Tells (shown j.slot.slot) → records_told record_of width (length j.buf.items) (shown d.slot.slot).told ≡ j.buf.items =
      IfOk-at_ok (λ _. Tells (shown j.slot.slot) → records_told record_of width (length j.buf.items) (shown d.slot.slot).told ≡ j.buf.items) e w.back in
      ap (λ (b : Block R). records_told record_of width (length b.items) (shown d.slot.slot).told) w.same ∙ back t

  module _ (slots0 : List (DeviceBlock S R)) (runs0 : List (Run R)) (rest0 : List R) where
    abbrev Wrote : List (DeviceBlock S R) → List (Run R) → List R → External S R → Type 0
    Wrote slots runs rest array = Writing cmp record_of width block shown slots0 runs0 rest0 slots runs rest array

    abbrev Failed_at : List (DeviceBlock S R) → List (Run R) → External S R → DeviceBlock S R → Type 0
    Failed_at slots runs array failed = WriteFailed shown (block * width) slots0 runs0 slots runs array failed

    -- all of them were written
    pub group_written :
        IsStrictWeakOrder (is_before cmp) → 1 ≤ block
        → (jobs done : List (Job (DeviceBlock S R) R)) (berths : List (DeviceBlock S R)) (runs : List (Run R)) (rest : List R) (runs' : List (Run R)) (rest' : List R) (array : External S R)
        → All IsWrite jobs → AllZip Ran jobs done → All IsGood done → Wrote (map slot_of jobs ++ berths) runs rest array → MergedInto cmp block (map buf_of jobs) runs rest runs' rest'
        → Wrote berths runs' rest' (written_run (array.stored ++ map block_of done))
    group_written o some [] [] berths runs rest runs' rest' array is zip good writing into =
        subst (λ (xs : List (DeviceBlock S R)). Wrote berths runs' rest' (written_run xs)) (sym (append-nil array.stored))
        (subst (λ a. Wrote berths runs' rest' a) writing.shape (subst (λ rs. Wrote berths rs rest' array) (sym into.0) (subst (λ xs. Wrote berths runs xs array) (sym into.1) writing)))
    group_written o some [] (d ∷ ds) berths runs rest runs' rest' array is zip good writing into = absurd zip
    group_written o some (j ∷ js) [] berths runs rest runs' rest' array is zip good writing into = absurd zip
    group_written o some (j ∷ js) (d ∷ ds) berths runs rest runs' rest' array is zip good writing (mid, over, here, one, next) =
        let put = stored_by j d (All-head IsWrite j js is) zip.0 (All-head IsGood d ds good) array writing.shape in
        let array1 = written_run (array.stored ++ block_of d ∷ []) in
        let step = Writing-more cmp record_of width block shown o some slots0 runs0 rest0 j.slot (map slot_of js ++ berths) runs mid rest over j.buf.items array array1 writing one put in
        subst (λ (xs : List (DeviceBlock S R)). Wrote berths runs' rest' (written_run xs)) (append_assoc array.stored (block_of d ∷ []) (map block_of ds))
        (group_written o some js ds berths mid over runs' rest' array1 (All-tail IsWrite j js is) zip.1 (All-tail IsGood d ds good) step next)

    -- the first of the jobs failed
    first_failed :
        (j : Job (DeviceBlock S R) R) (js : List (Job (DeviceBlock S R) R)) (bad : Job (DeviceBlock S R) R) (later : List (Job (DeviceBlock S R) R)) (berths : List (DeviceBlock S R)) (runs : List (Run R)) (rest : List R) (runs' : List (Run R)) (array : External S R)
        → All IsWrite (j ∷ js) → Ran j bad → AllZip Ran js later → IsBad bad → Wrote (j.slot ∷ (map slot_of js ++ berths)) runs rest array → map buffers_of runs' ≡ map buffers_of runs
        → Failed_at (berths ++ map slot_of later) runs' (written_run array.stored) bad.slot
    first_failed j js bad later berths runs rest runs' array is one zip (x, e) writing same =
        let w = wrote j bad (All-head IsWrite j js is) one in
        let err : one.answer ≡ Err x = some_is (Err x) one.answer (Err x) (sym one.done ∙ e) in
        let put = block_failed bytes_of record_of width shown one.answer x err j.slot.slot bad.slot j.buf bad.buf w array in
        let calls = called_all js later (All-tail IsWrite j js is) zip in
        let s0 = slots_shown shown slots0 in
        let xs = slots_shown shown array.stored in
        let s = shown j.slot.slot in
        let t = shown bad.slot.slot in
        let l = slots_shown shown (map slot_of js) in
        let l' = slots_shown shown (map slot_of later) in
        let b = slots_shown shown berths in
        let n = length array.stored in
        let from : slots_shown shown (map slot_of js ++ berths) ≡ l ++ b = map-append (λ (b : DeviceBlock S R). shown b.slot) (map slot_of js) berths in
        let to : slots_shown shown (berths ++ map slot_of later) ≡ b ++ l' = map-append (λ (b : DeviceBlock S R). shown b.slot) berths (map slot_of later) in
        let before : WentWriting n s0 (xs ++ s ∷ (l ++ b)) = subst (λ ys. WentWriting n s0 (xs ++ s ∷ ys)) from writing.went in
        let tried : WentWriting n s0 (xs ++ t ∷ (l ++ b)) = WentWriting-more s0 xs (l ++ b) s t n 0 n before put.grew put.transfers (omega arith) in
        let around : (us : List Shown) → ((xs ++ t ∷ []) ++ us) ++ b ≡ xs ++ t ∷ (us ++ b) = λ us. append_assoc (xs ++ t ∷ []) us b ∙ append_assoc xs (t ∷ []) (us ++ b) in
        let all : WentWriting (n + length l) s0 (xs ++ t ∷ (l' ++ b)) =
        subst (WentWriting (n + length l) s0) (around l') (went_each s0 (xs ++ t ∷ []) l l' b n (n + length l) refl (subst (WentWriting n s0) (sym (around l)) tried) calls) in
        let placed : WentWriting (n + length l) s0 (xs ++ t ∷ (b ++ l')) =
        WentWriting-placed (n + length l) [] s0 (xs ++ t ∷ (l' ++ b)) s0 (xs ++ t ∷ (b ++ l')) (λ f. let z : sum_by f [] ≡ 0 = refl in omega (arith, z))
        (λ f. let z : sum_by f [] ≡ 0 = refl in
        omega (arith, z, sum_by-append f xs (t ∷ (b ++ l')), sum_by-cons f t (b ++ l'), sum_by-append f b l', sum_by-append f xs (t ∷ (l' ++ b)), sum_by-cons f t (l' ++ b), sum_by-append f l' b))
        all in
        let few : n + length l ≤ length slots0 = omega (arith, before.went.same.length, length-append xs (s ∷ (l ++ b)), length-append l b, slots_long shown array.stored, slots_long shown slots0) in
        let behind = all_right Sized array.stored (j.slot ∷ (map slot_of js ++ berths)) writing.sizes in
        let after = All-tail Sized j.slot (map slot_of js ++ berths) behind in
        let laters = sized_all js later (All-tail IsWrite j js is) zip (all_left Sized (map slot_of js) berths after) in
        record {
          sizes = All-append Sized array.stored (bad.slot ∷ (berths ++ map slot_of later)) (all_left Sized array.stored (j.slot ∷ (map slot_of js ++ berths)) writing.sizes)
              (All-cons Sized bad.slot (berths ++ map slot_of later) (grown_slot (block * width) s t put.grew (All-head Sized j.slot (map slot_of js ++ berths) behind)) (All-append Sized berths (map slot_of later) (all_right Sized (map slot_of js) berths after) laters));
          shape = refl;
          went = subst (λ ys. WentWriting (length slots0) s0 (xs ++ t ∷ ys)) (sym to) (WentWriting-weaker (n + length l) (length slots0) s0 (xs ++ t ∷ (b ++ l')) few placed);
          buffers = same ∙ writing.buffers;
          first = record { front = writing.in_order.front; first = s; behind = slots_shown shown (map slot_of js ++ berths); order = writing.in_order.order; well = writing.in_order.well; number = put.grew.number; rose = put.rose };
        }

    -- some of them were written, and the next one failed
    pub group_failed :
        IsStrictWeakOrder (is_before cmp) → 1 ≤ block
        → (jobs good : List (Job (DeviceBlock S R) R)) (bad : Job (DeviceBlock S R) R) (later : List (Job (DeviceBlock S R) R)) (berths : List (DeviceBlock S R)) (runs : List (Run R)) (rest : List R) (runs' : List (Run R)) (rest' : List R) (array : External S R)
        → All IsWrite jobs → AllZip Ran jobs (good ++ bad ∷ later) → All IsGood good → IsBad bad → Wrote (map slot_of jobs ++ berths) runs rest array → MergedInto cmp block (map buf_of jobs) runs rest runs' rest'
        → Failed_at (berths ++ map slot_of later) runs' (written_run (array.stored ++ map block_of good)) bad.slot
    group_failed o some [] [] bad later berths runs rest runs' rest' array is zip good fault writing into = absurd zip
    group_failed o some [] (d ∷ ds) bad later berths runs rest runs' rest' array is zip good fault writing into = absurd zip
    group_failed o some (j ∷ js) [] bad later berths runs rest runs' rest' array is zip good fault writing into =
        subst (λ (xs : List (DeviceBlock S R)). Failed_at (berths ++ map slot_of later) runs' (written_run xs) bad.slot) (sym (append-nil array.stored))
        (first_failed j js bad later berths runs rest runs' array is zip.0 zip.1 fault writing (MergedInto-buffers cmp block (map buf_of (j ∷ js)) runs rest runs' rest' into))
    group_failed o some (j ∷ js) (d ∷ ds) bad later berths runs rest runs' rest' array is zip good fault writing (mid, over, here, one, next) =
        let put = stored_by j d (All-head IsWrite j js is) zip.0 (All-head IsGood d ds good) array writing.shape in
        let array1 = written_run (array.stored ++ block_of d ∷ []) in
        let step = Writing-more cmp record_of width block shown o some slots0 runs0 rest0 j.slot (map slot_of js ++ berths) runs mid rest over j.buf.items array array1 writing one put in
        subst (λ (xs : List (DeviceBlock S R)). Failed_at (berths ++ map slot_of later) runs' (written_run xs) bad.slot) (append_assoc array.stored (block_of d ∷ []) (map block_of ds))
        (group_failed o some js ds bad later berths mid over runs' rest' array1 (All-tail IsWrite j js is) zip.1 (All-tail IsGood d ds good) fault step next)
