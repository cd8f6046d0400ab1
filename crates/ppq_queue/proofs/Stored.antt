-- What storing a run leaves: runs at rest, with the stored records.
use Rattle.std.proofs.Common.{◌≡◌, ℕ, ◌+◌, ◌*◌, ◌<◌, ◌≤◌, List, [], ◌∷◌, ◌++◌, length, sum_by, All, sym, ap, ◌∙◌, subst, arith, inl, inr, append-nil, length-append}
use Rattle.std.specs.Prelude.{flat_map, count_by}
use Rattle.std.specs.declared.cmp.Ordering.{Ordering}
use Rattle.std.proofs.lemmas.List.Sums.{sum_by-cons, sum_by-append}
use Rattle.std.proofs.lemmas.List.Elements.{All-head, All-nil, All-push}
use Rattle.std.proofs.lemmas.List.Concat.{flat_map-cons}
use Rattle.std.proofs.lemmas.Grind.{flat_map-append}
use Rattle.ppq_heap.specs.ppq_record.Order.{Ascends}
use Rattle.ppq_heap.proofs.ppq_record.Order.{count_by-append}
use Rattle.ppq_extract.specs.ppq_outside.Shown.{Shown, AllTell}
use Rattle.ppq_extract.specs.ppq_budget.Sizes.{Numbers, AreInRange, fixed_of}
use Rattle.ppq_extract.specs.ppq_array.Run.{Run, items_of, buffers_of}
use Rattle.ppq_extract.specs.ppq_array.External.{External, size_of, records_in, IsPacked}
use Rattle.ppq_extract.specs.ppq_array.Supply.{Stock}
use Rattle.ppq_extract.specs.ppq_array.Kept.{Kept, SameSlots, SameSums, AreQuiet, all_writes, all_faults}
use Rattle.ppq_extract.specs.ppq_array.Holdings.{internal_items, external_buffers, external_slots, RunHasBlock, HasSlots, CanTakeBack}
use Rattle.ppq_extract.proofs.ppq_array.Noted.{all_right}
use Rattle.ppq_extract.specs.ppq_fetch.Fetching.{IsFitting, fronts_in, one_if_some, count_in}
use Rattle.ppq_spill.specs.Body.{held_by}
use Rattle.ppq_spill.specs.Storing.{in_buffers, NoSlots, MayStore, HasOneSize, LanesRest, RoomsRest, IsInBuffers, BlocksStored, IsStored, NoneFree, WritesFew, StillTell}
use Rattle.ppq_spill.specs.declared.body.PassBody.{PassBody}
use Rattle.ppq_queue.specs.Resting.{BodyKept, IsRestingRun, IsRestingArray, AllRise, AtRest, Moved, StoreShort, runs_bag, slots_of, odd_in}
use Rattle.ppq_queue.proofs.Bounds.{pool_within, pool_small, runs_few, idle_most, idle_some, in_buffers_few}
use Rattle.ppq_queue.proofs.Amounts.{internal_count}
use Rattle.ppq_queue.proofs.Moves.{rest-moved}
use Rattle.ppq_queue.proofs.Odd.{odd_most}
use Rattle.ppq_queue.proofs.Slots.{no_row_more, kept-sums, quiet-same}

module _ {S R : Type 0} (shown : S → Shown) where
  -- what a store keeps, whatever it answers
  pub kept-stored :
      (a b : PassBody S R) (s t : Stock)
      → Kept s t (held_by shown a) (held_by shown b) → StillTell shown a b s t → (n : ℕ) → WritesFew shown n a b s t → RoomsRest a b
      → length t.kept + t.slot_room ≡ length s.kept + s.slot_room → t.sure_buffers + t.buffer_room ≡ s.sure_buffers + s.buffer_room → s.drawn ≡ [] → t.drawn ≡ []
      → BodyKept shown a b s t
  kept-stored a b s t ks tells n few rooms home_slots home_buffers no_row no_row' =
      let before : slots_of shown a s ++ t.drawn ≡ slots_of shown a s = no_row_more (slots_of shown a s) t.drawn no_row' in
      let after : slots_of shown b t ++ s.drawn ≡ slots_of shown b t = no_row_more (slots_of shown b t) s.drawn no_row in
      record {
        slots = subst (λ (x : List Shown). SameSlots x (slots_of shown b t)) before (subst (λ (y : List Shown). SameSlots (slots_of shown a s ++ t.drawn) y) after ks.slots);
        tells = (
          (λ tell. subst AllTell after (tells.0 (subst AllTell (sym before) tell))),
          (λ tell. subst AllTell before (tells.1 (subst AllTell (sym after) tell))),
        );
        writes = omega (arith, few.stay, ap all_writes before, ap all_writes after);
        held = ks.buffers;
        all_slots = home_slots;
        all_buffers = home_buffers;
        block = ks.block;
        internal_room = rooms.internal;
        external_room = rooms.external;
        leaves = rooms.tree;
      }

  module _ (cmp : R → R → Ordering) (record_of : List ℕ → R) (width : ℕ) (n : Numbers) where
    -- a body at rest can store a run more
    pub may_store :
        (a : PassBody S R) (s : Stock) (records : ℕ)
        → AtRest shown cmp record_of width n a s → AreInRange n → fixed_of n ≤ n.memory → length a.runs.external.items ≤ 64 → records ≤ n.memory → MayStore shown width records a s
    may_store a s records rest range budget few most =
        record {
          size = record {
            some = omega (arith, rest.block, range.two_records);
            small = omega (arith, rest.block, range.block);
            idle = rest.idle;
            internal = λ k d h. (rest.internal k d h).blocks;
            external = λ k d h. (rest.external k d h).size;
          };
          buffer = omega (arith, idle_some shown cmp record_of width n a s rest);
          few_idle = (let most_idle = idle_most shown cmp record_of width n a s rest in omega (arith, most_idle, pool_small n, range.workers));
          no_job = rest.no_job;
          takes_back = rest.takes_back;
          internal_room = omega (arith, runs_few shown cmp record_of width n a s rest, rest.internal_room);
          external_room = omega (arith, few, rest.external_room);
          leaves = omega (arith, runs_few shown cmp record_of width n a s rest, rest.leaves);
          few = omega (arith, in_buffers_few shown cmp record_of width n a s rest, pool_within n budget, most, range.memory);
        }

    module _ (a b : PassBody S R) (s t : Stock) (rest : AtRest shown cmp record_of width n a s) (kept : BodyKept shown a b s t) (size : HasOneSize shown width b t) (takes_back : CanTakeBack shown t b.runs.internal.items b.runs.external.items) (lanes : LanesRest a.lanes b.lanes) where
      same_runs : All (IsRestingRun t.block) a.runs.internal.items
      same_runs = subst (λ k. All (IsRestingRun k) a.runs.internal.items) (sym kept.block) rest.internal

      same_arrays : All (IsRestingArray shown width t.block) a.runs.external.items
      same_arrays = subst (λ k. All (IsRestingArray shown width k) a.runs.external.items) (sym kept.block) rest.external

      odd_same : b.runs.external.items ≡ a.runs.external.items → odd_in t.block b.runs.external.items ≤ 65
      odd_same ext = omega (arith, rest.few, ap (λ k. odd_in k b.runs.external.items) kept.block, ap (odd_in s.block) ext)

      rest-with :
          All (IsRestingRun t.block) b.runs.internal.items → All (IsRestingArray shown width t.block) b.runs.external.items → external_buffers b.runs.external.items ≡ external_buffers a.runs.external.items → fronts_in b.runs.external.items ≡ fronts_in a.runs.external.items
          → odd_in t.block b.runs.external.items ≤ 65 → (AllTell (slots_of shown a s) → AllRise shown cmp record_of width b)
          → AtRest shown cmp record_of width n b t
      rest-with int ext buffers fronts few rise =
          rest-moved rest kept size.idle lanes.no_job lanes.batch takes_back int ext (omega (arith, lanes.idle, buffers)) (omega (arith, rest.bounded, buffers, fronts)) (omega (arith, rest.fronts, fronts)) few (λ tell. rise (kept.tells.1 tell))

      -- the same runs, and what changed besides
      rest-same : b.runs.internal.items ≡ a.runs.internal.items → b.runs.external.items ≡ a.runs.external.items → AtRest shown cmp record_of width n b t
      rest-same int ext =
          rest-with (subst (All (IsRestingRun t.block)) (sym int) same_runs) (subst (All (IsRestingArray shown width t.block)) (sym ext) same_arrays) (ap external_buffers ext) (ap fronts_in ext) (odd_same ext)
          (λ told. record {
            internal = subst (All (λ (run : Run R). Ascends cmp (items_of run))) (sym int) (rest.rise told).internal;
            external = subst (All (λ (x : External S R). Ascends cmp (records_in record_of width shown x))) (sym ext) (rest.rise told).external;
          })

      -- of the same runs in blocks, and of slots that were not called, no call failed
      quiet-kept : b.runs.external.items ≡ a.runs.external.items → SameSums s.kept t.kept → AreQuiet (slots_of shown a s) (slots_of shown b t)
      quiet-kept ext = quiet-same shown a b s t rest.no_job lanes.no_job (λ f. ap (λ l. sum_by f (external_slots shown l)) (sym ext))

      moved-same : b.runs.internal.items ≡ a.runs.internal.items → b.runs.external.items ≡ a.runs.external.items → SameSums s.kept t.kept → Moved shown cmp record_of width n [] a b s t
      moved-same int ext untouched =
          record {
            rest = rest-same int ext;
            quiet = quiet-kept ext untouched;
            bag = λ tell p. omega (arith, ap (λ l. count_by p (internal_items l ++ flat_map (records_in record_of width shown) b.runs.external.items)) int, ap (λ l. count_by p (internal_items a.runs.internal.items ++ flat_map (records_in record_of width shown) l)) ext);
            count = omega (arith, ap (λ l. count_in l b.runs.external.items) int, ap (λ l. count_in a.runs.internal.items l) ext);
          }

      module _ (sorted : List R) (some : 0 < length sorted + in_buffers a) where
        -- one run in blocks more, and none in buffers
        pub moved-in_blocks : length a.runs.external.items ≤ 64 → s.drawn ≡ [] → t.drawn ≡ [] → BlocksStored cmp record_of width shown sorted a b s t → Moved shown cmp record_of width n sorted a b s t
        moved-in_blocks few no_row no_row' put =
            let int = put.internal in
            let ext = put.external in
            let array = put.array in
            let one : List (External S R) = array ∷ [] in
            let bytes = HasSlots {R = R} shown (t.block * width) in
            let before : slots_of shown a s ++ t.drawn ≡ slots_of shown a s = no_row_more (slots_of shown a s) t.drawn no_row' in
            let after : slots_of shown b t ++ s.drawn ≡ slots_of shown b t = no_row_more (slots_of shown b t) s.drawn no_row in
            let blocks : bytes array = All-head bytes array [] (all_right bytes a.runs.external.items one (subst (All bytes) ext size.external)) in
            let none : buffers_of array.loaded ≡ [] = ap buffers_of put.loaded in
            let empty : items_of array.loaded ≡ [] = ap items_of put.loaded in
            let is : IsRestingArray shown width t.block array =
            record {
              some = omega (arith, put.size, some);
              level = omega (arith, put.level);
              lifted = put.lifted;
              size = blocks;
              loaded = subst (All (λ x. x.block ≡ t.block)) (sym none) (All-nil (λ x. x.block ≡ t.block));
              fitting = subst (All IsFitting) (sym none) (All-nil IsFitting);
              spent = ap (λ r. r.spent) put.loaded;
              packed = subst (λ k. IsPacked k array.stored) (sym kept.block) put.packed;
              written = put.written;
            }
            in
            let loaded_buffers : external_buffers b.runs.external.items ≡ external_buffers a.runs.external.items =
            omega (arith, ap external_buffers ext, sum_by-append (λ (x : External S R). length (buffers_of x.loaded)) a.runs.external.items one, sum_by-cons (λ (x : External S R). length (buffers_of x.loaded)) array [], ap length none)
            in
            let fronts : fronts_in b.runs.external.items ≡ fronts_in a.runs.external.items =
            omega (arith, ap fronts_in ext, sum_by-append (λ (x : External S R). one_if_some (items_of x.loaded)) a.runs.external.items one, sum_by-cons (λ (x : External S R). one_if_some (items_of x.loaded)) array [], ap one_if_some empty)
            in
            record {
              rest = rest-with (subst (All (IsRestingRun t.block)) (sym int) (All-nil (IsRestingRun t.block))) (subst (All (IsRestingArray shown width t.block)) (sym ext) (All-push (IsRestingArray shown width t.block) a.runs.external.items array same_arrays is)) loaded_buffers fronts
                  (omega (arith, few, odd_most t.block b.runs.external.items, ap length ext, length-append a.runs.external.items one))
                  (λ told. record {
                    internal = subst (All (λ (run : Run R). Ascends cmp (items_of run))) (sym int) (All-nil (λ (run : Run R). Ascends cmp (items_of run)));
                    external = subst (All (λ (x : External S R). Ascends cmp (records_in record_of width shown x))) (sym ext) (All-push (λ (x : External S R). Ascends cmp (records_in record_of width shown x)) a.runs.external.items array (rest.rise told).external (put.ascends (subst AllTell (sym before) told)));
                  });
              quiet = sym (ap all_faults after) ∙ put.quiet ∙ ap all_faults before;
              bag = λ tell p.
                  omega (
                    arith,
                    ap (λ l. count_by p (internal_items l ++ flat_map (records_in record_of width shown) b.runs.external.items)) int,
                    ap (λ l. count_by p (flat_map (records_in record_of width shown) l)) ext,
                    ap (count_by p) (flat_map-append (records_in record_of width shown) a.runs.external.items one),
                    count_by-append p (flat_map (records_in record_of width shown) a.runs.external.items) (flat_map (records_in record_of width shown) one),
                    ap (count_by p) (flat_map-cons (records_in record_of width shown) array [] ∙ append-nil (records_in record_of width shown array)),
                    put.records (subst AllTell (sym before) tell) p,
                    count_by-append p sorted (internal_items a.runs.internal.items),
                    count_by-append p sorted (runs_bag shown record_of width a),
                    count_by-append p (internal_items a.runs.internal.items) (flat_map (records_in record_of width shown) a.runs.external.items),
                  );
              count = omega (
                arith,
                ap (λ l. count_in l b.runs.external.items) int,
                ap (λ (l : List (External S R)). sum_by size_of l) ext,
                sum_by-append (λ (x : External S R). size_of x) a.runs.external.items one,
                sum_by-cons (λ (x : External S R). size_of x) array [],
                put.size,
                internal_count a.runs.internal.items,
              );
            }

      module _ (sorted : List R) (some : 0 < length sorted) (up : AllTell (slots_of shown a s) → Ascends cmp sorted) where
        -- one run in buffers more
        pub moved-in_buffers : IsInBuffers sorted a b s t → Moved shown cmp record_of width n sorted a b s t
        moved-in_buffers put =
            let int = put.internal in
            let ext = put.external in
            let one : List (Run R) = put.run ∷ [] in
            let blocks = All-head (RunHasBlock t.block) put.run [] (all_right (RunHasBlock t.block) a.runs.internal.items one (subst (All (RunHasBlock t.block)) int size.internal)) in
            let run : IsRestingRun t.block put.run = record { some = omega (arith, ap length put.items, some); spent = put.spent; blocks = blocks; fitting = put.fitting } in
            record {
              rest = rest-with (subst (All (IsRestingRun t.block)) (sym int) (All-push (IsRestingRun t.block) a.runs.internal.items put.run same_runs run)) (subst (All (IsRestingArray shown width t.block)) (sym ext) same_arrays) (ap external_buffers ext) (ap fronts_in ext) (odd_same ext)
                  (λ told. record {
                    internal = subst (All (λ (run : Run R). Ascends cmp (items_of run))) (sym int) (All-push (λ (run : Run R). Ascends cmp (items_of run)) a.runs.internal.items put.run (rest.rise told).internal (subst (Ascends cmp) (sym put.items) (up told)));
                    external = subst (All (λ (x : External S R). Ascends cmp (records_in record_of width shown x))) (sym ext) (rest.rise told).external;
                  });
              quiet = quiet-kept ext (λ f. ap (sum_by f) (sym put.slots.kept));
              bag = λ tell p.
                  omega (
                    arith,
                    ap (λ l. count_by p (internal_items l ++ flat_map (records_in record_of width shown) b.runs.external.items)) int,
                    ap (λ l. count_by p (internal_items (a.runs.internal.items ++ one) ++ flat_map (records_in record_of width shown) l)) ext,
                    count_by-append p (internal_items (a.runs.internal.items ++ one)) (flat_map (records_in record_of width shown) a.runs.external.items),
                    ap (count_by p) (flat_map-append (λ (run : Run R). items_of run) a.runs.internal.items one),
                    count_by-append p (internal_items a.runs.internal.items) (internal_items one),
                    ap (count_by p) (flat_map-cons (λ (run : Run R). items_of run) put.run [] ∙ append-nil (items_of put.run) ∙ put.items),
                    count_by-append p sorted (runs_bag shown record_of width a),
                    count_by-append p (internal_items a.runs.internal.items) (flat_map (records_in record_of width shown) a.runs.external.items),
                  );
              count = omega (
                arith,
                ap (λ l. count_in l b.runs.external.items) int,
                ap (λ l. count_in (a.runs.internal.items ++ one) l) ext,
                sum_by-append (λ (run : Run R). length (items_of run)) a.runs.internal.items one,
                sum_by-cons (λ (run : Run R). length (items_of run)) put.run [],
                ap length put.items,
              );
            }

        pub moved-stored : length a.runs.external.items ≤ 64 → s.drawn ≡ [] → t.drawn ≡ [] → IsStored cmp record_of width shown sorted a b s t → Moved shown cmp record_of width n sorted a b s t
        moved-stored few no_row no_row' (inl put) = moved-in_buffers put
        moved-stored few no_row no_row' (inr put) = moved-in_blocks sorted (omega (arith, some)) few no_row no_row' put.blocks

        pub short-stored : s.drawn ≡ [] → t.drawn ≡ [] → NoneFree (length sorted) a b s t → StoreShort shown cmp record_of width n (length sorted) a b s t
        short-stored no_row no_row' none =
            record {
              moved = moved-same none.slots.internal none.slots.external (kept-sums s.kept t.kept s.drawn t.drawn no_row no_row' none.slots.untouched);
              short = (let size : length t.kept * s.block ≡ length t.kept * n.block = ap (λ k. length t.kept * k) rest.block in omega (arith, none.slots.still_few, size, internal_count a.runs.internal.items));
            }

      -- a merge of all runs in buffers found too few slots
      pub short-merged : s.drawn ≡ [] → t.drawn ≡ [] → NoSlots 0 a b s t → StoreShort shown cmp record_of width n 0 a b s t
      short-merged no_row no_row' none =
          record {
            moved = moved-same none.internal none.external (kept-sums s.kept t.kept s.drawn t.drawn no_row no_row' none.untouched);
            short = (let size : length t.kept * s.block ≡ length t.kept * n.block = ap (λ k. length t.kept * k) rest.block in omega (arith, none.still_few, size, internal_count a.runs.internal.items));
          }
