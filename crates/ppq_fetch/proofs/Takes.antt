-- A turn that takes safe records.
use Rattle.std.proofs.Common.{◌≡◌, ℕ, ◌+◌, ◌*◌, ◌≤◌, refl, true, false, not, List, [], ◌∷◌, ◌++◌, length, map, take, drop, flat_map, sum_by, All, Option, sym, ap, ap₂, ◌∙◌, subst, arith, length-drop, append-nil, append_assoc, take-append-drop}
use Rattle.std.specs.Prelude.{count_by}
use Rattle.std.specs.List.{AllByRecursion as Each, AllZip}
use Rattle.std.specs.Cmp.{IsStrictWeakOrder}
use Rattle.std.specs.declared.cmp.Ordering.{Ordering}
use Rattle.std.proofs.lemmas.List.{length-map}
use Rattle.std.proofs.lemmas.List.Sums.{sum_by-cons}
use Rattle.std.proofs.lemmas.Bool.{not-false}
use Rattle.std.proofs.lemmas.List.Elements.{All-from_recursion, recursion_from_All, length_all_zip}
use Rattle.ppq_array.specs.ppq_record.Order.{is_before, Ascends}
use Rattle.ppq_array.specs.ppq_record.Bag.{IsSameBag}
use Rattle.ppq_array.specs.ppq_record.Runs.{all_of}
use Rattle.ppq_array.proofs.ppq_record.Order.{count_by-all, count_by-append, Each-weaker, Each-append_left, Each-same_bag, IsSameBag-length}
use Rattle.ppq_array.specs.ppq_block.Block.{Block}
use Rattle.ppq_array.specs.ppq_outside.Shown.{Shown, AllTell}
use Rattle.ppq_array.specs.Run.{Run, items_of, buffers_of}
use Rattle.ppq_array.specs.declared.berth.DeviceBlock.{DeviceBlock}
use Rattle.ppq_array.specs.External.{External, waiting, records_in, blocks_items, counts}
use Rattle.ppq_array.specs.Supply.{Stock}
use Rattle.ppq_array.specs.Owner.{HasBlock, HasSlot, slots_shown}
use Rattle.ppq_array.specs.Kept.{SameSlots, AreQuiet}
use Rattle.ppq_array.specs.Holdings.{external_slots, RunHasBlock, HasSlots}
use Rattle.ppq_merge.specs.ppq_split.Cut.{AreWithin}
use Rattle.ppq_merge.specs.Parts.{before, after}
use Rattle.ppq_fetch.specs.Edges.{is_within, IsSafeEdge}
use Rattle.ppq_fetch.specs.Parts.{firsts, rests, passed}
use Rattle.ppq_fetch.specs.Plan.{TakesPart}
use Rattle.ppq_fetch.specs.Taking.{IsTaken}
use Rattle.ppq_fetch.specs.Steps.{MergesSafe, AllConsumed, SameBlocks}
use Rattle.ppq_fetch.specs.Fetching.{State, state, MayFetch, PartsKept, Fetched, SourcesTell, RunsRise, WentOn, IsFitting, loaded_lists, count_in, blocks_in, slots_in, waiting_items, source_items}
use Rattle.ppq_merge.proofs.Between.{count_by-before_after, length-before}
use Rattle.ppq_fetch.proofs.Sums.{loaded_of, loaded_long, sum_flat_map}
use Rattle.ppq_fetch.proofs.Consuming.{given_block}
use Rattle.ppq_fetch.proofs.Loads.{slots_long}
use Rattle.ppq_fetch.proofs.Parted.{taken_same, merge_step, within_whole, each_before, firsts_rise, rests_parts, all_of-rests, all_pass_first, Rising-right}
use Rattle.ppq_fetch.specs.Rounds.{TookTurn}
use Rattle.ppq_fetch.proofs.Rounds.{Fetched-none, parts_trans, on_fewer, same_slots, zip_each, zip_flat}
use Rattle.ppq_fetch.proofs.Marking.{edge_downward}
use Rattle.ppq_fetch.proofs.Waiting.{lists_rise}

each_of_map : {A B : Type 0} (f : A → B) (P : B → Type 0) (xs : List A) → Each P (map f xs) → Each (λ x. P (f x)) xs
each_of_map f P [] h = tt
each_of_map f P (x ∷ xs) h = (h.0, each_of_map f P xs h.1)

-- The first records of runs were consumed: what that leaves, as far as order has no part in it
pub record WasTaken {S R : Type 0} (cmp : R → R → Ordering) (record_of : List ℕ → R) (width : ℕ) (shown : S → Shown) (ps : List ℕ) (old new : State S R) (out : List R) : Type 0 where
  pub parts : PartsKept shown old new
  pub quiet : AreQuiet (slots_in shown old) (slots_in shown new)
  pub counted : length out + count_in new.internal new.external ≡ count_in old.internal old.external
  pub tell : SourcesTell shown old → SourcesTell shown new
  pub lists : loaded_lists new.internal new.external ≡ rests ps (loaded_lists old.internal old.external)
  pub waits : waiting_items record_of width shown new.external ≡ waiting_items record_of width shown old.external
  pub blocks : blocks_in new.external ≡ blocks_in old.external
  pub may : (ahead : ℕ) → MayFetch shown width ahead old → MayFetch shown width ahead new
  pub rise : Each (λ a. Ascends cmp (records_in record_of width shown a)) old.external → Each (λ a. Ascends cmp (records_in record_of width shown a)) new.external

-- each run ascends
pub record AllRuns {S R : Type 0} (cmp : R → R → Ordering) (record_of : List ℕ → R) (width : ℕ) (shown : S → Shown) (runs : List (Run R)) (arrays : List (External S R)) : Type 0 where
  pub internal : Each (λ (run : Run R). Ascends cmp (items_of run)) runs
  pub external : Each (λ (a : External S R). Ascends cmp (records_in record_of width shown a)) arrays

-- what is left of ascending runs ascends
rests_rise : {R : Type 0} (cmp : R → R → Ordering) (cs : List ℕ) (qs : List (List R)) → AreWithin cs qs → Each (Ascends cmp) qs → Each (Ascends cmp) (rests cs qs)
rests_rise cmp [] [] w h = tt
rests_rise cmp [] (q ∷ qs) w h = absurd w
rests_rise cmp (c ∷ cs) [] w h = absurd w
rests_rise cmp (c ∷ cs) (q ∷ qs) w h = (Rising-right (is_before cmp) (take c q) (drop c q) (subst (Ascends cmp) (sym (take-append-drop c q)) h.0), rests_rise cmp cs qs w.1 h.1)

-- records were taken of each run in buffers
runs_fewer : {R : Type 0} (cs : List ℕ) (os ns : List (Run R)) → map items_of ns ≡ rests cs (map items_of os) → sum_by (λ (run : Run R). length (items_of run)) ns ≤ sum_by (λ (run : Run R). length (items_of run)) os
runs_fewer cs os [] e = omega arith
runs_fewer [] os (n ∷ ns) e = absurd (omega (arith, ap length e))
runs_fewer (c ∷ cs) [] (n ∷ ns) e = absurd (omega (arith, ap length e))
runs_fewer {R} (c ∷ cs) (o ∷ os) (n ∷ ns) e =
    let head : items_of n ≡ drop c (items_of o) = cc in
    let tail : map items_of ns ≡ rests cs (map items_of os) = cc in
    omega (
      arith,
      sum_by-cons (λ (run : Run R). length (items_of run)) n ns,
      sum_by-cons (λ (run : Run R). length (items_of run)) o os,
      ap length head,
      length-drop c (items_of o),
      runs_fewer cs os ns tail,
    )

module _ {S R : Type 0} where
  same_waiting : (a b : External S R) → SameBlocks a b → waiting b ≡ waiting a
  same_waiting a b e = ap (λ (z : External S R). waiting z) e

  same_stored : (a b : External S R) → SameBlocks a b → b.stored ≡ a.stored
  same_stored a b e = ap (λ (z : External S R). z.stored) e

  same_lifted : (a b : External S R) → SameBlocks a b → b.lifted ≡ a.lifted
  same_lifted a b e = ap (λ (z : External S R). z.lifted) e

  went : (a b : External S R) (c : ℕ) → SameBlocks a b → items_of b.loaded ≡ drop c (items_of a.loaded) → WentOn a b
  went a b c e items =
      record {
        level = ap (λ (z : External S R). z.level) e;
        loads = 0;
        within = omega arith;
        stored = same_stored a b e;
        size = omega (arith, ap length items, length-drop c (items_of a.loaded), ap counts (same_waiting a b e));
      }

  -- records were taken of each run, and no block of it
  arrays_went : (cs : List ℕ) (os ns : List (External S R)) → AllZip SameBlocks os ns → map (λ (a : External S R). items_of a.loaded) ns ≡ rests cs (map (λ (a : External S R). items_of a.loaded) os) → AllZip WentOn os ns
  arrays_went cs [] [] z e = tt
  arrays_went cs [] (b ∷ ns) z e = absurd z
  arrays_went cs (a ∷ os) [] z e = absurd z
  arrays_went [] (a ∷ os) (b ∷ ns) z e = absurd (omega (arith, ap length e))
  arrays_went (c ∷ cs) (a ∷ os) (b ∷ ns) z e =
      let head : items_of b.loaded ≡ drop c (items_of a.loaded) = cc in
      let tail : map (λ (a : External S R). items_of a.loaded) ns ≡ rests cs (map (λ (a : External S R). items_of a.loaded) os) = cc in
      (went a b c z.0 head, arrays_went cs os ns z.1 tail)

  module _ (cmp : R → R → Ordering) (o : IsStrictWeakOrder (is_before cmp)) (record_of : List ℕ → R) (width : ℕ) (shown : S → Shown) where
    arrays_rise :
        (cs : List ℕ) (os ns : List (External S R)) → AllZip SameBlocks os ns → map (λ (a : External S R). items_of a.loaded) ns ≡ rests cs (map (λ (a : External S R). items_of a.loaded) os)
        → Each (λ (a : External S R). Ascends cmp (records_in record_of width shown a)) os → Each (λ (a : External S R). Ascends cmp (records_in record_of width shown a)) ns
    arrays_rise cs [] [] z e h = tt
    arrays_rise cs [] (b ∷ ns) z e h = absurd z
    arrays_rise cs (a ∷ os) [] z e h = absurd z
    arrays_rise [] (a ∷ os) (b ∷ ns) z e h = absurd (omega (arith, ap length e))
    arrays_rise (c ∷ cs) (a ∷ os) (b ∷ ns) z e h =
        let head : items_of b.loaded ≡ drop c (items_of a.loaded) = cc in
        let tail : map (λ (a : External S R). items_of a.loaded) ns ≡ rests cs (map (λ (a : External S R). items_of a.loaded) os) = cc in
        let w = blocks_items record_of width shown (waiting a) in
        let e2 : records_in record_of width shown b ≡ drop c (items_of a.loaded) ++ w = ap₂ (λ xs ys. xs ++ ys) head (ap (λ bs. blocks_items record_of width shown bs) (same_waiting a b z.0)) in
        let whole : take c (items_of a.loaded) ++ (drop c (items_of a.loaded) ++ w) ≡ items_of a.loaded ++ w = sym (append_assoc (take c (items_of a.loaded)) (drop c (items_of a.loaded)) w) ∙ ap (λ xs. xs ++ w) (take-append-drop c (items_of a.loaded)) in
        (subst (Ascends cmp) (sym e2) (Rising-right (is_before cmp) (take c (items_of a.loaded)) (drop c (items_of a.loaded) ++ w) (subst (Ascends cmp) (sym whole) h.0)), arrays_rise cs os ns z.1 tail h.1)

    -- what leaves runs at their fronts, as far as order has no part in it
    module _ (internal internal' : List (Run R)) (arrays arrays' : List (External S R)) (idle idle' : List (Block R)) (stock stock' : Stock) (ps : List ℕ) (out : List R) (gone : AllConsumed ps internal internal' arrays arrays' idle idle' stock stock')
        (whole : AreWithin ps (loaded_lists internal arrays)) (number : length out ≡ length (before ps (loaded_lists internal arrays))) where
      abbrev old : State S R
      old = state internal arrays idle stock

      abbrev new : State S R
      new = state internal' arrays' idle' stock'

      lists : loaded_lists internal' arrays' ≡ rests ps (loaded_lists internal arrays)
      lists = ap₂ (λ xs ys. xs ++ ys) gone.runs.items gone.arrays.items ∙ sym (rests_parts ps (map items_of internal) (map loaded_of arrays) ∙ ap (λ k. rests (take k ps) (map items_of internal) ++ rests (drop k ps) (map loaded_of arrays)) (length-map internal items_of))

      slots : external_slots shown arrays' ≡ external_slots shown arrays
      slots = zip_flat SameBlocks (λ (a : External S R). slots_shown shown a.stored) (λ a b e. ap (slots_shown shown) (same_stored a b e)) arrays arrays' gone.arrays.rest

      waits : flat_map waiting arrays' ≡ flat_map waiting arrays
      waits = zip_flat SameBlocks waiting same_waiting arrays arrays' gone.arrays.rest

      wait_items : waiting_items record_of width shown arrays' ≡ waiting_items record_of width shown arrays
      wait_items = zip_flat SameBlocks (λ (a : External S R). blocks_items record_of width shown (waiting a)) (λ a b e. ap (λ bs. blocks_items record_of width shown bs) (same_waiting a b e)) arrays arrays' gone.arrays.rest

      blocks : blocks_in arrays' ≡ blocks_in arrays
      blocks = omega (arith, ap length slots, slots_long record_of width shown arrays, slots_long record_of width shown arrays')

      long : length arrays ≡ length arrays'
      long = length_all_zip SameBlocks arrays arrays' gone.arrays.rest

      both : slots_in shown new ≡ slots_in shown old
      both = ap₂ (λ xs ys. xs ++ ys) slots (ap (λ (s : Stock). s.kept) gone.runs.given.stock)

      parts : PartsKept shown old new
      parts =
          let e = gone.runs.given.stock in
          let all = (external_slots shown arrays ++ stock.kept) ++ stock'.drawn in
          record {
            kept = record {
              slots = subst (SameSlots all) (ap₂ (λ xs ys. xs ++ ys) (sym both) (ap (λ (s : Stock). s.drawn) e)) (same_slots all);
              slot_room = omega (arith, ap length slots, ap (λ (s : Stock). s.slot_room) e);
              buffers = omega (arith, gone.runs.buffers, gone.arrays.buffers);
              block = given_block stock stock' gone.runs.given;
            };
            internal = gone.runs.long;
            in_memory = runs_fewer (take (length internal) ps) internal internal' gone.runs.items;
            buffers = omega (arith, gone.arrays.buffers);
            went_on = arrays_went (drop (length internal) ps) arrays arrays' gone.arrays.rest gone.arrays.items;
            stock = record {
              more = [];
              kept = ap (λ (s : Stock). s.kept) e ∙ sym (append-nil stock.kept);
              counted = omega (arith, blocks);
              drawn = ap (λ (s : Stock). s.drawn) e;
              sure = gone.runs.given.sure;
              dry = ap (λ (s : Stock). s.dry) e;
              scant = ap (λ (s : Stock). s.scant) e;
              room_when_scant = ap (λ (s : Stock). s.room_when_scant) e;
            };
            transfers = record { writes = ap (sum_by (λ s. s.writes)) both; reads = omega (arith, ap (sum_by (λ s. s.reads)) both) };
            all_tell = (λ tell. subst AllTell (sym both) tell, λ tell. subst AllTell both tell);
          }

      counted : length out + count_in internal' arrays' ≡ count_in internal arrays
      counted =
          let qs = loaded_lists internal arrays in
          omega (
            arith,
            number,
            count_by-before_after (λ _. true) ps qs whole,
            count_by-all (before ps qs),
            count_by-all (after ps qs),
            count_by-all (all_of qs),
            ap (λ xs. length (all_of xs)) lists,
            ap length (all_of-rests ps qs),
            loaded_long internal arrays,
            loaded_long internal' arrays',
            sum_flat_map (λ (b : DeviceBlock S R). b.count) waiting arrays,
            sum_flat_map (λ (b : DeviceBlock S R). b.count) waiting arrays',
            ap (sum_by (λ (b : DeviceBlock S R). b.count)) waits,
          )

      -- the parts hold on
      sources_on : (ahead : ℕ) → MayFetch shown width ahead old → MayFetch shown width ahead new
      sources_on ahead m =
          let s = m.sources in
          let be = given_block stock stock' gone.runs.given in
          let b = stock.block in
          let each = gone.arrays.blocks b (recursion_from_All (HasBlock b) idle s.idle) (recursion_from_All (λ (a : External S R). RunHasBlock b a.loaded) arrays s.loaded) in
          let room = ap (λ (s : Stock). s.slot_room) gone.runs.given.stock in
          record {
            sources = record {
              idle = subst (λ k. All (HasBlock k) idle') (sym be) (All-from_recursion (HasBlock b) idle' each.0);
              internal = subst (λ k. All (RunHasBlock k) internal') (sym be) (All-from_recursion (RunHasBlock b) internal' (gone.runs.blocks b (recursion_from_All (RunHasBlock b) internal s.internal)));
              external = subst (λ k. All (HasSlots shown (k * width)) arrays') (sym be)
                  (All-from_recursion (HasSlots shown (b * width)) arrays' (zip_each SameBlocks (HasSlots shown (b * width)) (λ x y e h. subst (All (HasSlot shown (b * width))) (sym (same_stored x y e)) h) arrays arrays' gone.arrays.rest (recursion_from_All (HasSlots shown (b * width)) arrays s.external)));
              loaded = subst (λ k. All (λ (a : External S R). RunHasBlock k a.loaded) arrays') (sym be) (All-from_recursion (λ (a : External S R). RunHasBlock b a.loaded) arrays' each.1);
              fitting = All-from_recursion (λ (a : External S R). All IsFitting (buffers_of a.loaded)) arrays' (gone.arrays.fitting (recursion_from_All (λ (a : External S R). All IsFitting (buffers_of a.loaded)) arrays s.fitting));
              internal_fitting = All-from_recursion (λ (run : Run R). All IsFitting (buffers_of run)) internal' (gone.runs.fitting (recursion_from_All (λ (run : Run R). All IsFitting (buffers_of run)) internal s.internal_fitting));
              internal_spent = gone.runs.spent;
              external_spent = gone.arrays.spent;
              takes_back = record { slots = omega (arith, s.takes_back.slots, ap length slots, room); buffers = omega (arith, s.takes_back.buffers, gone.runs.buffers) };
              fronts = omega (arith, s.fronts, long, gone.arrays.buffers);
              bounded = omega (arith, s.bounded, gone.arrays.bounded);
              few_buffers = omega (arith, s.few_buffers, gone.arrays.buffers);
              few_runs = omega (arith, s.few_runs, long, gone.runs.long);
              few_records = omega (arith, s.few_records, counted);
            };
            none_lifted = zip_each SameBlocks (λ (a : External S R). a.lifted ≡ []) (λ x y e h. same_lifted x y e ∙ h) arrays arrays' gone.arrays.rest m.none_lifted;
          }

      pub taken_parts : WasTaken cmp record_of width shown ps old new out
      taken_parts = record {
        parts = parts;
        quiet = ap (sum_by (λ s. s.faults)) both;
        counted = counted;
        tell = λ tell. subst AllTell (sym slots) tell;
        lists = lists;
        waits = wait_items;
        blocks = blocks;
        may = sources_on;
        rise = λ rise. arrays_rise (drop (length internal) ps) arrays arrays' gone.arrays.rest gone.arrays.items rise;
      }

    -- what a merge of safe records takes
    module _ (below : Option R) (internal : List (Run R)) (arrays : List (External S R)) (bounds ps : List ℕ) (room n : ℕ) (out : List R) (plan : TakesPart cmp record_of width shown below internal arrays bounds room n) (merged : MergesSafe cmp bounds (loaded_lists internal arrays) ps out) where
      pub merged_within : AreWithin ps (loaded_lists internal arrays)
      merged_within = within_whole ps bounds (loaded_lists internal arrays) merged.within plan.within

      pub merged_number : length out ≡ length (before ps (loaded_lists internal arrays))
      merged_number =
          let qs = loaded_lists internal arrays in
          let fs = firsts bounds qs in
          omega (arith, IsSameBag-length out (before ps fs) merged.bag, length-before ps fs merged.within, length-before ps qs merged_within)

      -- where slots tell and runs ascend: the places are those of the edge, so all of it is a merge of safe records
      module _ (tell : AllTell (external_slots shown arrays)) (rise : AllRuns cmp record_of width shown internal arrays) where
        up : Each (Ascends cmp) (loaded_lists internal arrays)
        up = lists_rise cmp o record_of width shown internal arrays rise.internal rise.external

        pub apart : IsSafeEdge cmp plan.edge below (waiting_items record_of width shown arrays)
        apart = plan.safe record { tell = tell; internal = rise.internal; external = rise.external }

        edged : MergesSafe cmp (passed (is_within cmp plan.edge) (loaded_lists internal arrays)) (loaded_lists internal arrays) ps out
        edged = subst (λ bs. MergesSafe cmp bs (loaded_lists internal arrays) ps out) (plan.marked up) merged

        pub step :
            IsTaken cmp (all_of (loaded_lists internal arrays) ++ waiting_items record_of width shown arrays) out (all_of (rests ps (loaded_lists internal arrays)) ++ waiting_items record_of width shown arrays)
            × Each (Ascends cmp) (rests ps (loaded_lists internal arrays))
        step =
            let p = is_within cmp plan.edge in
            let qs = loaded_lists internal arrays in
            merge_step cmp o p qs (waiting_items record_of width shown arrays) out (length out) ps (edge_downward cmp o plan.edge) up apart.0 (edged.least (firsts_rise cmp o (passed p qs) qs up)) edged.within edged.bag

        pub within : Each (λ x. is_within cmp plan.edge x ≡ true) out
        within =
            let p = is_within cmp plan.edge in
            let qs = loaded_lists internal arrays in
            let pass = each_before (λ x. p x ≡ true) ps (passed p qs) qs (all_pass_first cmp o p (edge_downward cmp o plan.edge) qs up).0 in
            let all = before ps (firsts (passed p qs) qs) in
            let turned = Each-same_bag (λ x. not (p x)) all out (λ q. sym (edged.bag q)) (Each-weaker (λ x. p x ≡ true) (λ x. not (p x) ≡ false) (λ x e. ap not e) all pass) in
            Each-weaker (λ x. not (p x) ≡ false) (λ x. p x ≡ true) (λ x e. not-false (p x) e) out turned

    module _ (below : Option R) (internal internal' : List (Run R)) (arrays arrays' : List (External S R)) (idle idle' : List (Block R)) (stock stock' : Stock) (bounds ps : List ℕ) (room n : ℕ) (out : List R) (plan : TakesPart cmp record_of width shown below internal arrays bounds room n)
        (merged : MergesSafe cmp bounds (loaded_lists internal arrays) ps out) where
      -- Blocks were loaded after the merge, up to a middle state, and then its records left: so it took them of the first state
      module _ (more : List (External S R)) (idle_between : List (Block R)) (stock_between : Stock) (loads : Fetched cmp record_of width shown below (state internal arrays idle stock) (state internal more idle_between stock_between) []) (ahead : ℕ) (may : MayFetch shown width ahead (state internal more idle_between stock_between))
          (same : before ps (loaded_lists internal more) ≡ before ps (loaded_lists internal arrays)) (whole : AreWithin ps (loaded_lists internal more)) (gone : AllConsumed ps internal internal' more arrays' idle_between idle' stock_between stock') where
        abbrev began : State S R
        began = state internal arrays idle stock

        abbrev between : State S R
        between = state internal more idle_between stock_between

        abbrev ended : State S R
        ended = state internal' arrays' idle' stock'

        took : WasTaken cmp record_of width shown ps between ended out
        took = taken_parts internal internal' more arrays' idle_between idle' stock_between stock' ps out gone whole (merged_number below internal arrays bounds ps room n out plan merged ∙ sym (ap length same))

        taken_bag : SourcesTell shown began → RunsRise record_of width shown cmp began → IsSameBag (all_of (rests ps (loaded_lists internal arrays)) ++ waiting_items record_of width shown arrays) (source_items record_of width shown ended)
        taken_bag tell rise p =
            let qs = loaded_lists internal arrays in
            let rs = loaded_lists internal more in
            omega (
              arith,
              count_by-append p (all_of (rests ps qs)) (waiting_items record_of width shown arrays),
              ap (λ xs. count_by p (all_of xs ++ waiting_items record_of width shown arrays')) took.lists,
              ap (λ xs. count_by p (all_of (rests ps rs) ++ xs)) took.waits,
              count_by-append p (all_of (rests ps rs)) (waiting_items record_of width shown more),
              ap (count_by p) (all_of-rests ps qs),
              ap (count_by p) (all_of-rests ps rs),
              count_by-before_after p ps qs (merged_within below internal arrays bounds ps room n out plan merged),
              count_by-before_after p ps rs whole,
              ap (count_by p) same,
              (loads.taken tell rise).moved p,
              count_by-append p (all_of qs) (waiting_items record_of width shown arrays),
              count_by-append p (all_of rs) (waiting_items record_of width shown more),
            )

        pub taken_later : n ≡ length out → TookTurn cmp record_of width shown below ahead began ended out
        taken_later e = record {
          fetched = record {
            parts = parts_trans shown began between ended loads.parts took.parts;
            quiet = took.quiet ∙ loads.quiet;
            counted = omega (arith, loads.counted, took.counted);
            tell = λ tell. took.tell (loads.tell tell);
            rise = λ tell rise.
                let r = loads.rise tell rise in
                record {
                  internal = each_of_map items_of (Ascends cmp) internal' (Each-append_left (Ascends cmp) (map items_of internal') (map loaded_of arrays') (subst (Each (Ascends cmp)) (sym took.lists) (rests_rise cmp ps (loaded_lists internal more) whole (lists_rise cmp o record_of width shown internal more r.internal r.external))));
                  external = took.rise r.external;
                };
            taken = λ tell rise.
                taken_same cmp o (source_items record_of width shown began) out (all_of (rests ps (loaded_lists internal arrays)) ++ waiting_items record_of width shown arrays) (source_items record_of width shown ended)
                (step below internal arrays bounds ps room n out plan merged tell record { internal = rise.internal; external = rise.external }).0 (taken_bag tell rise);
            under = λ tell rise. (apart below internal arrays bounds ps room n out plan merged tell record { internal = rise.internal; external = rise.external }).1 out (within below internal arrays bounds ps room n out plan merged tell record { internal = rise.internal; external = rise.external });
          };
          may = took.may ahead may;
          less = omega (arith, took.blocks, on_fewer arrays more loads.parts.went_on, plan.some, e);
        }

      pub taken_turn : AllConsumed ps internal internal' arrays arrays' idle idle' stock stock' → (ahead : ℕ) → MayFetch shown width ahead (state internal arrays idle stock) → n ≡ length out → TookTurn cmp record_of width shown below ahead (state internal arrays idle stock) (state internal' arrays' idle' stock') out
      taken_turn gone ahead may e =
          taken_later arrays idle stock (Fetched-none cmp o record_of width shown below (state internal arrays idle stock)) ahead may refl (merged_within below internal arrays bounds ps room n out plan merged) gone e
