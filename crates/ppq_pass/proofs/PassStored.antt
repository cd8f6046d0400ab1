-- What a store leaves of a pass whose runs were all full heaps: the same, with one run more, or as it was.
use Rattle.std.proofs.Common.{◌≡◌, ℕ, suc, ◌+◌, ◌*◌, ◌<◌, ◌≤◌, Bool, true, List, [], ◌∷◌, ◌++◌, length, sum_by, All, Option, inl, inr, sym, ap, ap₂, ◌∙◌, subst, arith, append-nil, length-append}
use Rattle.std.specs.Prelude.{flat_map, count_by}
use Rattle.std.specs.declared.cmp.Ordering.{Ordering}
use Rattle.std.proofs.lemmas.List.Sums.{sum_by-cons, sum_by-append}
use Rattle.std.proofs.lemmas.List.Elements.{All-head, All-nil, All-push}
use Rattle.std.proofs.lemmas.List.Concat.{flat_map-cons}
use Rattle.std.proofs.lemmas.Grind.{flat_map-append}
use Rattle.std.proofs.Math.Nat.{suc-mul, mul_assoc, add-mul, le_of_mul-le-mul_right}
use Rattle.ppq_pool.specs.ppq_record.Order.{Ascends}
use Rattle.ppq_pool.specs.ppq_record.Bag.{IsSameBag}
use Rattle.ppq_pool.proofs.ppq_record.Order.{count_by-append}
use Rattle.ppq_extract.specs.ppq_outside.Shown.{Shown, AllTell}
use Rattle.ppq_extract.specs.ppq_budget.Sizes.{Numbers, heap_of}
use Rattle.ppq_heap.specs.Heap.{Contents}
use Rattle.ppq_extract.specs.ppq_array.declared.berth.DeviceBlock.{DeviceBlock}
use Rattle.ppq_extract.specs.ppq_array.Run.{Run, items_of}
use Rattle.ppq_extract.specs.ppq_array.External.{External, size_of, waiting, counts, records_in}
use Rattle.ppq_extract.specs.ppq_array.Owner.{slots_shown}
use Rattle.ppq_extract.specs.ppq_array.Holdings.{internal_items, external_slots, RunHasBlock, HasSlots}
use Rattle.ppq_extract.specs.ppq_array.Kept.{AreQuiet, all_faults}
use Rattle.ppq_extract.specs.ppq_lane.declared.job.Job.{Job}
use Rattle.ppq_spill.specs.Body.{body_slots, job_slots}
use Rattle.ppq_extract.proofs.ppq_array.Noted.{all_right}
use Rattle.ppq_extract.specs.ppq_fetch.Fetching.{count_in}
use Rattle.ppq_spill.specs.Storing.{in_buffers, IsInBuffers, BlocksStored, IsStored, NoneFree}
use Rattle.ppq_spill.specs.declared.body.PassBody.{PassBody}
use Rattle.ppq_spill.proofs.Blocks.{counts_full, full_exact}
use Rattle.ppq_spill.proofs.Keeping.{slots_long}
use Rattle.ppq_pass.specs.declared.shared.Shared.{Shared}
use Rattle.ppq_pass.specs.declared.parts.PassParts.{PassParts}
use Rattle.ppq_pass.specs.Passed.{PassHolding, runs_bag, slots_of}
use Rattle.ppq_pass.specs.PassState.{IsSoundPass, IsPassRun, IsPassArray, stock_of, drawn_of, all_slots}
use Rattle.ppq_pass.specs.PassStore.{StoreKept}
use Rattle.ppq_pass.proofs.PassRuns.{runs_records, runs_count}
use Rattle.ppq_pass.proofs.PassKeeps.{heap_small}
use Rattle.ppq_pass.proofs.PassReady.{AtStore}
use Rattle.ppq_pass.proofs.PassSlots.{still_tell, tell_before, same_quiet}

module _ {S R : Type 0} {shown : S → Shown} {cmp : R → R → Ordering} {record_of : List ℕ → R} {width : ℕ} {n : Numbers} {heap : Contents R} {a : PassBody S R} {p : PassParts S R} {begun accepted : ℕ} {refused : Bool} {failed : Option ℕ} {stores : ℕ} {v : PassHolding S R} {shared : Shared S R} {sorted : List R}
    (at : AtStore shown cmp record_of width n heap a p begun accepted refused failed stores v shared sorted) {b : PassBody S R} {q : PassParts S R} (kept : StoreKept shown width (length sorted) shared a b p q)
  where
    abbrev Rises : External S R → Type 0
    Rises a = Ascends cmp (records_in record_of width shown a)

    abbrev Climbs : Run R → Type 0
    Climbs run = Ascends cmp (items_of run)

    -- the records of all runs, counted
    abbrev all_in : PassBody S R → ℕ
    all_in body = count_in body.runs.internal.items body.runs.external.items

    block_now : (stock_of shown q).block ≡ n.block
    block_now = kept.kept.block ∙ at.is.block

    tells : AllTell (all_slots shown b q) → AllTell (all_slots shown a p)
    tells = (still_tell kept).1

    heap_some : 0 < n.block
    heap_some = omega (arith, at.is.range.two_records)

    -- where no run in blocks came or went, the slots of the body are the same
    same_body : b.runs.external.items ≡ a.runs.external.items → body_slots shown b ≡ body_slots shown a
    same_body external = ap₂ (λ (xs : List (External S R)) (jobs : List (Job (DeviceBlock S R) R)). external_slots shown xs ++ job_slots shown jobs) external (kept.lanes.no_job ∙ sym at.is.no_job)

    -- one run in buffers more
    module _ (put : IsInBuffers sorted a b (stock_of shown p) (stock_of shown q)) where
      abbrev one_run : List (Run R)
      one_run = put.run ∷ []

      more_items : internal_items b.runs.internal.items ≡ internal_items a.runs.internal.items ++ sorted
      more_items =
          ap internal_items put.internal
          ∙ flat_map-append (λ (run : Run R). items_of run) a.runs.internal.items one_run
          ∙ ap (λ l. internal_items a.runs.internal.items ++ l) (flat_map-cons (λ (run : Run R). items_of run) put.run [] ∙ append-nil (items_of put.run) ∙ put.items)

      more_in_buffers : in_buffers b ≡ in_buffers a + heap_of n
      more_in_buffers = omega (arith, ap length more_items, length-append (internal_items a.runs.internal.items) sorted, at.long)

      more_counted : all_in b ≡ all_in a + heap_of n
      more_counted = omega (arith, runs_count b.runs.internal.items, runs_count a.runs.internal.items, more_in_buffers, ap (λ (l : List (External S R)). sum_by size_of l) put.external)

      same_stash : length q.stash ≡ length p.stash
      same_stash = omega (arith, ap length put.slots.kept, slots_long shown q.stash, slots_long shown p.stash)

      quiet_slots : AreQuiet (body_slots shown a ++ slots_shown shown p.stash ++ drawn_of shown q) (body_slots shown b ++ slots_shown shown q.stash ++ drawn_of shown p)
      quiet_slots =
          ap₂ (λ (xs ys : List Shown). all_faults (body_slots shown b ++ xs ++ ys)) put.slots.kept (sym put.slots.drawn)
          ∙ ap (λ (l : List Shown). all_faults (l ++ slots_shown shown p.stash ++ drawn_of shown q)) (same_body put.external)

      pub sound_in_buffers : (heap' : Contents R) → length heap'.items ≡ 1 → IsSoundPass shown cmp record_of width n heap' b q begun (accepted + 1) refused
      sound_in_buffers heap' one =
          let blocks : RunHasBlock n.block put.run = subst (λ k. RunHasBlock k put.run) block_now (All-head (RunHasBlock (stock_of shown q).block) put.run [] (all_right (RunHasBlock (stock_of shown q).block) a.runs.internal.items one_run (subst (All (RunHasBlock (stock_of shown q).block)) put.internal kept.size.internal))) in
          let run : IsPassRun n.block (heap_of n) put.run = record { whole = ap length put.items ∙ at.long; spent = put.spent; blocks = blocks; fitting = put.fitting } in
          let stash : length q.stash * n.block ≡ length p.stash * n.block = ap (λ k. k * n.block) same_stash in
          record {
            quiet = same_quiet kept quiet_slots at.sound.quiet;
            internal = subst (All (IsPassRun n.block (heap_of n))) (sym put.internal) (All-push (IsPassRun n.block (heap_of n)) a.runs.internal.items put.run at.sound.internal run);
            external = subst (All (IsPassArray shown width n.block (heap_of n))) (sym put.external) at.sound.external;
            ascend = subst (All Climbs) (sym put.internal) (All-push Climbs a.runs.internal.items put.run at.sound.ascend (subst (Ascends cmp) (sym put.items) at.up));
            rise = λ tell. subst (All Rises) (sym put.external) (at.sound.rise (tells tell));
            counted = omega (arith, one, more_counted, at.sound.counted, at.full);
            some = λ _. omega (arith, one);
            stash = omega (arith, stash, at.sound.stash, at.full, more_in_buffers);
            whole = λ _. omega (arith, more_counted);
          }

      pub bag_in_buffers : IsSameBag (runs_bag shown record_of width b) (sorted ++ runs_bag shown record_of width a)
      bag_in_buffers t =
          let left = flat_map (records_in record_of width shown) a.runs.external.items in
          omega (
            arith,
            ap (λ l. count_by t (internal_items b.runs.internal.items ++ flat_map (records_in record_of width shown) l)) put.external,
            ap (λ l. count_by t (l ++ left)) more_items,
            count_by-append t (internal_items a.runs.internal.items ++ sorted) left,
            count_by-append t (internal_items a.runs.internal.items) sorted,
            count_by-append t sorted (runs_bag shown record_of width a),
            count_by-append t (internal_items a.runs.internal.items) left,
          )

    -- one run in blocks more, and none in buffers
    module _ (put : BlocksStored cmp record_of width shown sorted a b (stock_of shown p) (stock_of shown q)) where
      abbrev one_array : List (External S R)
      one_array = put.array ∷ []

      block_before : (stock_of shown p).block ≡ n.block
      block_before = at.is.block

      -- how many blocks hold the heap and the runs in buffers, all full
      abbrev whole_blocks : ℕ
      whole_blocks = suc (length a.runs.internal.items) * n.heap

      all_records : length sorted + in_buffers a ≡ whole_blocks * n.block
      all_records =
          let r = length a.runs.internal.items in
          let m : in_buffers a ≡ r * (n.heap * n.block) = runs_records n.block (heap_of n) a.runs.internal.items at.sound.internal in
          let one : whole_blocks * n.block ≡ (r * n.heap + n.heap) * n.block = ap (λ k. k * n.block) (suc-mul r n.heap) in
          let two : (r * n.heap + n.heap) * n.block ≡ r * n.heap * n.block + n.heap * n.block = add-mul (r * n.heap) n.heap n.block in
          let three : r * n.heap * n.block ≡ r * (n.heap * n.block) = mul_assoc r n.heap n.block in
          let four : length sorted ≡ n.heap * n.block = at.long in
          omega (arith, m, one, two, three, four)

      counts_all : counts put.array.stored ≡ whole_blocks * n.block
      counts_all =
          let none : length (items_of put.array.loaded) ≡ 0 = ap (λ r. length (items_of r)) put.loaded in
          let same : counts (waiting put.array) ≡ counts put.array.stored = ap (λ l. counts (l ++ put.array.stored)) put.lifted in
          omega (arith, none, same, put.size, all_records)

      few_blocks : length put.array.stored * n.block < counts put.array.stored + n.block
      few_blocks = subst (λ k. length put.array.stored * k < counts put.array.stored + k) block_before (omega (arith, put.blocks, put.size, all_records, counts_all))

      stored_full : All (λ (x : DeviceBlock S R). x.count ≡ n.block) put.array.stored
      stored_full = full_exact n.block put.array.stored whole_blocks (subst (λ k. All (λ (x : DeviceBlock S R). x.count ≤ k) put.array.stored) block_before put.packed.last) counts_all few_blocks

      is_array : IsPassArray shown width n.block (heap_of n) put.array
      is_array =
          let bytes = HasSlots {R = R} shown ((stock_of shown q).block * width) in
          record {
            whole = omega (arith, put.size, at.long);
            level = put.level;
            loaded = put.loaded;
            lifted = put.lifted;
            size = subst (λ k. HasSlots shown (k * width) put.array) block_now (All-head bytes put.array [] (all_right bytes a.runs.external.items one_array (subst (All bytes) put.external kept.size.external)));
            full = stored_full;
            written = put.written;
          }

      -- the stash had no more slots than were wanted
      no_stash : length q.stash ≡ 0
      no_stash =
          let most : length p.stash * n.block ≤ length put.array.stored * n.block = omega (arith, at.sound.stash, at.full, all_records, at.long, counts_all, counts_full n.block put.array.stored stored_full) in
          omega (arith, put.kept, le_of_mul-le-mul_right most heap_some, slots_long shown q.stash, slots_long shown p.stash)

      counted_now : all_in b ≡ all_in a + heap_of n
      counted_now =
          omega (
            arith,
            ap (λ l. count_in l b.runs.external.items) put.internal,
            ap (λ (l : List (External S R)). sum_by size_of l) put.external,
            sum_by-append (λ (x : External S R). size_of x) a.runs.external.items one_array,
            sum_by-cons (λ (x : External S R). size_of x) put.array [],
            put.size,
            runs_count a.runs.internal.items,
            at.long,
          )

      pub sound_in_blocks : (heap' : Contents R) → length heap'.items ≡ 1 → IsSoundPass shown cmp record_of width n heap' b q begun (accepted + 1) refused
      sound_in_blocks heap' one =
          let stash : length q.stash * n.block ≡ 0 * n.block = ap (λ k. k * n.block) no_stash in
          record {
            quiet = same_quiet kept put.quiet at.sound.quiet;
            internal = subst (All (IsPassRun n.block (heap_of n))) (sym put.internal) (All-nil (IsPassRun n.block (heap_of n)));
            external = subst (All (IsPassArray shown width n.block (heap_of n))) (sym put.external) (All-push (IsPassArray shown width n.block (heap_of n)) a.runs.external.items put.array at.sound.external is_array);
            ascend = subst (All Climbs) (sym put.internal) (All-nil Climbs);
            rise = λ tell. subst (All Rises) (sym put.external) (All-push Rises a.runs.external.items put.array (at.sound.rise (tells tell)) (put.ascends (tell_before kept (tells tell))));
            counted = omega (arith, one, counted_now, at.sound.counted, at.full);
            some = λ _. omega (arith, one);
            stash = omega (arith, stash);
            whole = λ _. omega (arith, counted_now);
          }

      pub bag_in_blocks : AllTell (all_slots shown a p) → IsSameBag (runs_bag shown record_of width b) (sorted ++ runs_bag shown record_of width a)
      bag_in_blocks tell t =
          let items = records_in record_of width shown in
          omega (
            arith,
            ap (λ l. count_by t (internal_items l ++ flat_map items b.runs.external.items)) put.internal,
            ap (λ l. count_by t (flat_map items l)) put.external,
            ap (count_by t) (flat_map-append items a.runs.external.items one_array),
            count_by-append t (flat_map items a.runs.external.items) (flat_map items one_array),
            ap (count_by t) (flat_map-cons items put.array [] ∙ append-nil (items put.array)),
            put.records (tell_before kept tell) t,
            count_by-append t sorted (internal_items a.runs.internal.items),
            count_by-append t sorted (runs_bag shown record_of width a),
            count_by-append t (internal_items a.runs.internal.items) (flat_map items a.runs.external.items),
          )

    -- a run was stored, in buffers or in blocks
    pub sound_stored : IsStored cmp record_of width shown sorted a b (stock_of shown p) (stock_of shown q) → (heap' : Contents R) → length heap'.items ≡ 1 → IsSoundPass shown cmp record_of width n heap' b q begun (accepted + 1) refused
    sound_stored (inl put) heap' one = sound_in_buffers put heap' one
    sound_stored (inr put) heap' one = sound_in_blocks put.blocks heap' one

    pub size_stored : IsStored cmp record_of width shown sorted a b (stock_of shown p) (stock_of shown q) → all_in b ≡ all_in a + heap_of n
    size_stored (inl put) = more_counted put
    size_stored (inr put) = counted_now put.blocks

    pub bag_stored : IsStored cmp record_of width shown sorted a b (stock_of shown p) (stock_of shown q) → AllTell (all_slots shown a p) → IsSameBag (runs_bag shown record_of width b) (sorted ++ runs_bag shown record_of width a)
    bag_stored (inl put) tell = bag_in_buffers put
    bag_stored (inr put) tell = bag_in_blocks put.blocks tell

    -- no run was stored
    module _ (none : NoneFree (length sorted) a b (stock_of shown p) (stock_of shown q)) where
      pub int : b.runs.internal.items ≡ a.runs.internal.items
      int = none.slots.internal

      pub ext : b.runs.external.items ≡ a.runs.external.items
      ext = none.slots.external

      pub few_stash : length q.stash * n.block < heap_of n + in_buffers a
      few_stash =
          let few : length (slots_shown shown q.stash) * n.block < length sorted + in_buffers a = subst (λ k. length (slots_shown shown q.stash) * k < length sorted + in_buffers a) at.is.block none.slots.still_few in
          let long_kept : length (slots_shown shown q.stash) * n.block ≡ length q.stash * n.block = ap (λ k. k * n.block) (slots_long shown q.stash) in
          omega (arith, few, long_kept, at.long)

      quiet_refused : AreQuiet (body_slots shown a ++ slots_shown shown p.stash ++ drawn_of shown q) (body_slots shown b ++ slots_shown shown q.stash ++ drawn_of shown p)
      quiet_refused =
          let f : Shown → ℕ = λ s. s.faults in
          let moved : sum_by f (slots_shown shown p.stash ++ drawn_of shown q) ≡ sum_by f (slots_shown shown q.stash ++ drawn_of shown p) = none.slots.untouched f in
          let same : sum_by f (body_slots shown b) ≡ sum_by f (body_slots shown a) = ap (sum_by f) (same_body ext) in
          let e : sum_by f (body_slots shown b ++ slots_shown shown q.stash ++ drawn_of shown p) ≡ sum_by f (body_slots shown a ++ slots_shown shown p.stash ++ drawn_of shown q) =
          omega (
            arith,
            moved,
            same,
            sum_by-append f (slots_of shown b q) (drawn_of shown p),
            sum_by-append f (body_slots shown b) (slots_shown shown q.stash),
            sum_by-append f (slots_shown shown q.stash) (drawn_of shown p),
            sum_by-append f (slots_of shown a p) (drawn_of shown q),
            sum_by-append f (body_slots shown a) (slots_shown shown p.stash),
            sum_by-append f (slots_shown shown p.stash) (drawn_of shown q),
          ) in
          e

      pub sound_refused : (heap' : Contents R) → length heap'.items ≡ heap_of n → IsSoundPass shown cmp record_of width n heap' b q begun accepted true
      sound_refused heap' all =
          record {
            quiet = same_quiet kept quiet_refused at.sound.quiet;
            internal = subst (All (IsPassRun n.block (heap_of n))) (sym int) at.sound.internal;
            external = subst (All (IsPassArray shown width n.block (heap_of n))) (sym ext) at.sound.external;
            ascend = subst (All Climbs) (sym int) at.sound.ascend;
            rise = λ tell. subst (All Rises) (sym ext) (at.sound.rise (tells tell));
            counted = omega (arith, all, at.full, at.sound.counted, ap (λ l. count_in l b.runs.external.items) int, ap (λ l. count_in a.runs.internal.items l) ext);
            some = λ _. omega (arith, all, (heap_small n at.is.range).0);
            stash = omega (arith, few_stash, all, ap (λ l. length (internal_items l)) int);
            whole = λ _. omega (arith, all);
          }
