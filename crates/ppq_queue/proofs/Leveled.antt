-- What merging 8 runs of a level leaves: runs at rest, with the same records.
use Rattle.std.proofs.Common.{◌≡◌, ℕ, zero, suc, ◌+◌, ◌*◌, ◌<◌, ◌≤◌, ◌==◌, Bool, cond, ltb, List, [], ◌∷◌, ◌++◌, length, sum_by, All, refl, sym, ap, ◌∙◌, subst, arith, inl, inr, length-append, lit<}
use Rattle.std.specs.Prelude.{◌⊎◌, flat_map, vec_capacity, count_by}
use Rattle.std.specs.List.Sorted.{IsPermutation}
use Rattle.std.specs.declared.cmp.Ordering.{Ordering}
use Rattle.std.proofs.lemmas.Bool.Decides.{nat_tests}
use Rattle.std.proofs.lemmas.List.Sums.{sum_by-cons, sum_by-append}
use Rattle.std.proofs.lemmas.List.Elements.{All-head, All-tail, All-nil, All-push}
use Rattle.std.proofs.lemmas.List.Sorted.{All-permutation, sum_by-IsPermutation, length_permutation}
use Rattle.std.proofs.lemmas.List.Concat.{flat_map-cons}
use Rattle.ppq_heap.specs.ppq_record.Order.{Ascends}
use Rattle.ppq_heap.specs.ppq_record.Bag.{IsSameBag}
use Rattle.ppq_heap.proofs.ppq_record.Order.{count_by-append}
use Rattle.ppq_extract.specs.ppq_outside.Shown.{Shown, AllTell}
use Rattle.ppq_extract.specs.ppq_budget.Sizes.{Numbers, AreInRange, fixed_of}
use Rattle.ppq_extract.specs.ppq_array.Run.{Run, items_of, buffers_of}
use Rattle.ppq_extract.specs.ppq_array.External.{External, size_of, records_in, IsPacked}
use Rattle.ppq_extract.specs.ppq_array.Owner.{slots_shown}
use Rattle.ppq_extract.specs.ppq_array.Supply.{Stock}
use Rattle.ppq_extract.specs.ppq_array.Kept.{Kept, SameSlots, all_writes}
use Rattle.ppq_extract.specs.ppq_array.Holdings.{internal_items, internal_buffers, external_buffers, external_slots, HasSlots}
use Rattle.ppq_extract.proofs.ppq_array.Noted.{all_left, all_right}
use Rattle.ppq_extract.specs.ppq_fetch.Fetching.{IsFitting, fronts_in, one_if_some}
use Rattle.ppq_spill.specs.Leveling.{MayLevel, AreOneSize, LanesStay, LevelTells, LevelMerged, NoneForLevel, HasLevel, count_level, records_count, held_in, arrays_before, arrays_after}
use Rattle.ppq_extract.specs.ppq_array.declared.berth.DeviceBlock.{DeviceBlock}
use Rattle.ppq_extract.specs.ppq_lane.declared.lanes.Lanes.{Lanes}
use Rattle.ppq_spill.specs.declared.body.PassBody.{PassBody}
use Rattle.ppq_queue.specs.Resting.{BodyKept, IsRestingRun, IsRestingArray, AtRest, Moved, LevelShort, slots_of, odd_of, odd_in, crowd_below, crowd_of}
use Rattle.ppq_queue.proofs.Bounds.{blocks_hold, pool_small, idle_most, idle_some, blocks_few, records_most}
use Rattle.ppq_queue.proofs.Moves.{rest-moved}
use Rattle.ppq_queue.proofs.Odd.{odd_made}
use Rattle.ppq_queue.proofs.Slots.{no_row_more, kept-sums, sum-stored, slots-no_job, quiet-arrays, quiet-same}

module _ {S R : Type 0} (shown : S → Shown) where
  -- what a merge keeps, whatever it answers
  pub kept-leveled :
      (a b : PassBody S R) (s t : Stock)
      → Kept s t (held_in shown a.runs.external.items a.lanes) (held_in shown b.runs.external.items b.lanes) → LevelTells shown a.runs.external.items b.runs.external.items s t
      → all_writes (arrays_before shown a.runs.external.items s t) ≤ all_writes (arrays_after shown b.runs.external.items s t) → LanesStay a.lanes b.lanes → a.lanes.jobs.items ≡ [] → b.runs.internal ≡ a.runs.internal → b.tree ≡ a.tree
      → vec_capacity b.runs.external ≡ vec_capacity a.runs.external
      → length t.kept + t.slot_room ≡ length s.kept + s.slot_room → t.sure_buffers + t.buffer_room ≡ s.sure_buffers + s.buffer_room → s.drawn ≡ [] → t.drawn ≡ []
      → BodyKept shown a b s t
  kept-leveled a b s t ks tells stay lanes none int tree ext_room home_slots home_buffers no_row no_row' =
      let ea = external_slots shown a.runs.external.items in
      let eb = external_slots shown b.runs.external.items in
      let before : slots_of shown a s ++ t.drawn ≡ slots_of shown a s = no_row_more (slots_of shown a s) t.drawn no_row' in
      let after : slots_of shown b t ++ s.drawn ≡ slots_of shown b t = no_row_more (slots_of shown b t) s.drawn no_row in
      let short : ea ++ s.kept ++ t.drawn ≡ slots_of shown a s = no_row_more (ea ++ s.kept) t.drawn no_row' ∙ sym (slots-no_job shown a s none) in
      let short' : eb ++ t.kept ++ s.drawn ≡ slots_of shown b t = no_row_more (eb ++ t.kept) s.drawn no_row ∙ sym (slots-no_job shown b t lanes.no_job) in
      record {
        slots = subst (λ (x : List Shown). SameSlots x (slots_of shown b t)) before (subst (λ (y : List Shown). SameSlots (slots_of shown a s ++ t.drawn) y) after ks.slots);
        tells = (
          (λ tell. subst AllTell short' (tells.0 (subst AllTell (sym short) tell))),
          (λ tell. subst AllTell short (tells.1 (subst AllTell (sym short') tell))),
        );
        writes = omega (arith, stay, ap all_writes short, ap all_writes short');
        held = omega (arith, ks.buffers, ap (λ v. internal_buffers v.items) int);
        all_slots = home_slots;
        all_buffers = home_buffers;
        block = ks.block;
        internal_room = ap (λ v. vec_capacity v) int;
        external_room = ext_room;
        leaves = ap (λ v. length v.items) tree;
      }

  module _ (cmp : R → R → Ordering) (record_of : List ℕ → R) (width : ℕ) (n : Numbers) where
    -- a body at rest can merge a level
    pub may_level : (a : PassBody S R) (s : Stock) → AtRest shown cmp record_of width n a s → AreInRange n → fixed_of n ≤ n.memory → MayLevel shown width n.workers a.runs.external.items a.lanes s
    may_level a s rest range budget =
        let idle = idle_most shown cmp record_of width n a s rest in
        record {
          size = record {
            some = omega (arith, rest.block, range.two_records);
            small = omega (arith, rest.block, range.block);
            idle = rest.idle;
            external = λ k d h. (rest.external k d h).size;
            loaded = λ k d h. (rest.external k d h).loaded;
            takes_back = rest.takes_back.slots;
          };
          lifted = λ k d h. (rest.external k d h).lifted;
          spent = λ k d h. (rest.external k d h).spent;
          fitting = λ k d h. (rest.external k d h).fitting;
          packed = λ k d h. (rest.external k d h).packed;
          buffers = idle_some shown cmp record_of width n a s rest;
          no_job = rest.no_job;
          batch = rest.batch;
          bounded = rest.bounded;
          few_buffers = omega (arith, idle, pool_small n, range.workers);
          few_blocks = omega (arith, idle, pool_small n, range.workers, range.blocks, blocks_few shown cmp record_of width n a s rest);
          few_records = omega (arith, records_most shown cmp record_of width n a s rest range budget 0 0 (omega arith) (omega arith), range.memory, blocks_hold n range);
        }

    count-flat_map : (p : R → Bool) (arrays : List (External S R)) → count_by p (flat_map (records_in record_of width shown) arrays) ≡ sum_by (λ (x : External S R). count_by p (records_in record_of width shown x)) arrays
    count-flat_map p [] = refl
    count-flat_map p (x ∷ xs) =
        ap (count_by p) (flat_map-cons (records_in record_of width shown) x xs)
        ∙ omega (arith, count_by-append p (records_in record_of width shown x) (flat_map (records_in record_of width shown) xs), count-flat_map p xs, sum_by-cons (λ (x : External S R). count_by p (records_in record_of width shown x)) x xs)

    -- the runs in blocks in another order
    bag-permuted : (xs ys : List (External S R)) → IsPermutation xs ys → IsSameBag (flat_map (records_in record_of width shown) ys) (flat_map (records_in record_of width shown) xs)
    bag-permuted xs ys moved p = omega (arith, count-flat_map p xs, count-flat_map p ys, sum_by-IsPermutation (λ (x : External S R). count_by p (records_in record_of width shown x)) xs ys moved)

    module _ (a b : PassBody S R) (s t : Stock) (rest : AtRest shown cmp record_of width n a s) (kept : BodyKept shown a b s t) (size : AreOneSize shown width b.runs.external.items b.lanes t) (lanes : LanesStay a.lanes b.lanes) (int : b.runs.internal ≡ a.runs.internal) (room : t.buffer_room ≡ s.buffer_room) where
      same_arrays : (xs : List (External S R)) → All (IsRestingArray shown width s.block) xs → All (IsRestingArray shown width t.block) xs
      same_arrays xs all = subst (λ k. All (IsRestingArray shown width k) xs) (sym kept.block) all

      int_items : b.runs.internal.items ≡ a.runs.internal.items
      int_items = ap (λ v. v.items) int

      rest-with :
          All (IsRestingArray shown width t.block) b.runs.external.items → external_buffers b.runs.external.items ≤ fronts_in b.runs.external.items + n.workers → fronts_in b.runs.external.items ≤ 64
          → odd_in s.block b.runs.external.items ≤ 65 → (AllTell (slots_of shown b t) → All (λ (x : External S R). Ascends cmp (records_in record_of width shown x)) b.runs.external.items)
          → AtRest shown cmp record_of width n b t
      rest-with all bounded fronts few up =
          rest-moved rest kept size.idle lanes.no_job lanes.batch (record { slots = size.takes_back; buffers = omega (arith, rest.takes_back.buffers, room, ap internal_buffers int_items) })
          (subst (All (IsRestingRun t.block)) (sym int_items) (subst (λ k. All (IsRestingRun k) a.runs.internal.items) (sym kept.block) rest.internal)) all
          (omega (arith, kept.held, ap length rest.no_job, ap length lanes.no_job, room, ap internal_buffers int_items)) bounded fronts (omega (arith, few, ap (λ k. odd_in k b.runs.external.items) kept.block))
          (λ tell. record { internal = subst (All (λ (run : Run R). Ascends cmp (items_of run))) (sym int_items) (rest.rise (kept.tells.1 tell)).internal; external = up tell })

      -- a refusal only changed the order of the runs
      pub short-leveled : (level : ℕ) → s.drawn ≡ [] → t.drawn ≡ [] → NoneForLevel shown level n.workers a.runs.external.items b.runs.external.items a.lanes b.lanes s t → LevelShort shown cmp record_of width n a b s t
      short-leveled level no_row no_row' none =
          let moved : IsPermutation a.runs.external.items b.runs.external.items = subst (IsPermutation a.runs.external.items) (sym none.arrays) none.of.parted in
          let buffers = sum_by-IsPermutation (λ (x : External S R). length (buffers_of x.loaded)) a.runs.external.items b.runs.external.items moved in
          let fronts = sum_by-IsPermutation (λ (x : External S R). one_if_some (items_of x.loaded)) a.runs.external.items b.runs.external.items moved in
          let sizes = sum_by-IsPermutation (λ (x : External S R). size_of x) a.runs.external.items b.runs.external.items moved in
          record {
            moved = record {
              rest = rest-with
                  (All-permutation (IsRestingArray shown width t.block) a.runs.external.items b.runs.external.items moved (same_arrays a.runs.external.items rest.external))
                  (omega (arith, rest.bounded, buffers, fronts))
                  (omega (arith, rest.fronts, fronts))
                  (omega (arith, rest.few, sum_by-IsPermutation (odd_of s.block) a.runs.external.items b.runs.external.items moved))
                  (λ tell. All-permutation (λ (x : External S R). Ascends cmp (records_in record_of width shown x)) a.runs.external.items b.runs.external.items moved (rest.rise (kept.tells.1 tell)).external);
              quiet = quiet-same shown a b s t rest.no_job lanes.no_job
                  (λ f. sum-stored shown f a.runs.external.items ∙ sym (sum_by-IsPermutation (λ (x : External S R). sum_by f (slots_shown shown x.stored)) a.runs.external.items b.runs.external.items moved) ∙ sym (sum-stored shown f b.runs.external.items))
                  (kept-sums s.kept t.kept s.drawn t.drawn no_row no_row' none.untouched);
              bag = λ tell p.
                  omega (
                    arith,
                    ap (λ l. count_by p (internal_items l ++ flat_map (records_in record_of width shown) b.runs.external.items)) int_items,
                    count_by-append p (internal_items a.runs.internal.items) (flat_map (records_in record_of width shown) b.runs.external.items),
                    count_by-append p (internal_items a.runs.internal.items) (flat_map (records_in record_of width shown) a.runs.external.items),
                    bag-permuted a.runs.external.items b.runs.external.items moved p,
                  );
              count = omega (arith, ap (λ l. sum_by (λ (run : Run R). length (items_of run)) l) int_items, sizes);
            };
            short = omega (arith, none.still_few, none.bounded);
          }

      module _ (level : ℕ) (few_level : level ≤ 7) (m : LevelMerged cmp record_of width shown level a.runs.external.items b.runs.external.items s t) where
        parts : (f : External S R → ℕ) → sum_by f a.runs.external.items ≡ sum_by f m.others + sum_by f m.inputs
        parts f = omega (arith, sum_by-IsPermutation f a.runs.external.items (m.others ++ m.inputs) m.of.parted, sum_by-append f m.others m.inputs)

        news : (f : External S R → ℕ) → sum_by f b.runs.external.items ≡ sum_by f m.others + f m.made
        news f = omega (arith, ap (sum_by f) m.arrays, sum_by-append f m.others (m.made ∷ []), sum_by-cons f m.made [])

        others_rest : All (IsRestingArray shown width s.block) m.others
        others_rest = all_left (IsRestingArray shown width s.block) m.others m.inputs (All-permutation (IsRestingArray shown width s.block) a.runs.external.items (m.others ++ m.inputs) m.of.parted rest.external)

        inputs_rest : All (IsRestingArray shown width s.block) m.inputs
        inputs_rest = all_right (IsRestingArray shown width s.block) m.others m.inputs (All-permutation (IsRestingArray shown width s.block) a.runs.external.items (m.others ++ m.inputs) m.of.parted rest.external)

        records_some : (xs : List (External S R)) → All (IsRestingArray shown width s.block) xs → length xs ≤ records_count xs
        records_some [] all = omega arith
        records_some (x ∷ xs) all = omega (arith, (All-head (IsRestingArray shown width s.block) x xs all).some, records_some xs (All-tail (IsRestingArray shown width s.block) x xs all), sum_by-cons (λ (x : External S R). size_of x) x xs)

        none : buffers_of m.made.loaded ≡ []
        none = ap buffers_of m.loaded

        made_rest : IsRestingArray shown width t.block m.made
        made_rest =
            let bytes = HasSlots {R = R} shown (t.block * width) in
            record {
              some = omega (arith, m.size, m.of.eight, records_some m.inputs inputs_rest);
              level = omega (arith, m.level_is);
              lifted = m.lifted;
              size = All-head bytes m.made [] (all_right bytes m.others (m.made ∷ []) (subst (All bytes) m.arrays size.external));
              loaded = subst (All (λ x. x.block ≡ t.block)) (sym none) (All-nil (λ x. x.block ≡ t.block));
              fitting = subst (All IsFitting) (sym none) (All-nil IsFitting);
              spent = ap (λ r. r.spent) m.loaded;
              packed = subst (λ k. IsPacked k m.made.stored) (sym kept.block) m.packed;
              written = m.written;
            }

        -- the new run is odd only where one of the 8 is
        odd-leveled : odd_in s.block b.runs.external.items ≤ odd_in s.block a.runs.external.items
        odd-leveled =
            let rests = subst (λ k. IsRestingArray shown width k m.made) kept.block made_rest in
            let made = odd_made s.block shown width m.made m.inputs rests (ap items_of m.loaded) m.size m.blocks in
            omega (arith, made, parts (odd_of s.block), news (odd_of s.block))

        pub fewer-leveled : length b.runs.external.items < length a.runs.external.items
        fewer-leveled = omega (arith, length_permutation a.runs.external.items (m.others ++ m.inputs) m.of.parted, length-append m.others m.inputs, m.of.eight, ap length m.arrays, length-append m.others (m.made ∷ []))

        pub moved-leveled : s.drawn ≡ [] → t.drawn ≡ [] → external_buffers b.runs.external.items ≤ fronts_in b.runs.external.items + n.workers → Moved shown cmp record_of width n [] a b s t
        moved-leveled no_row no_row' bounded =
            record {
              rest = rest-with
                  (subst (All (IsRestingArray shown width t.block)) (sym m.arrays) (All-push (IsRestingArray shown width t.block) m.others m.made (same_arrays m.others others_rest) made_rest))
                  bounded
                  (omega (arith, rest.fronts, parts (λ (x : External S R). one_if_some (items_of x.loaded)), news (λ (x : External S R). one_if_some (items_of x.loaded)), ap (λ r. one_if_some (items_of r)) m.loaded))
                  (omega (arith, rest.few, odd-leveled))
                  up;
              quiet = quiet-arrays shown a b s t rest.no_job lanes.no_job no_row no_row' m.quiet;
              bag = λ tell p.
                  omega (
                    arith,
                    ap (λ l. count_by p (internal_items l ++ flat_map (records_in record_of width shown) b.runs.external.items)) int_items,
                    count_by-append p (internal_items a.runs.internal.items) (flat_map (records_in record_of width shown) b.runs.external.items),
                    count_by-append p (internal_items a.runs.internal.items) (flat_map (records_in record_of width shown) a.runs.external.items),
                    count-flat_map p b.runs.external.items,
                    count-flat_map p a.runs.external.items,
                    news (λ (x : External S R). count_by p (records_in record_of width shown x)),
                    parts (λ (x : External S R). count_by p (records_in record_of width shown x)),
                    made_bag tell p,
                    count-flat_map p m.inputs,
                  );
              count = omega (arith, ap (λ l. sum_by (λ (run : Run R). length (items_of run)) l) int_items, news (λ (x : External S R). size_of x), parts (λ (x : External S R). size_of x), m.size);
            }
          where
            told : AllTell (slots_of shown a s) → AllTell (external_slots shown a.runs.external.items ++ s.kept ++ t.drawn)
            told tell = subst AllTell (sym (no_row_more (external_slots shown a.runs.external.items ++ s.kept) t.drawn no_row')) (subst AllTell (slots-no_job shown a s rest.no_job) tell)

            made_bag : AllTell (slots_of shown a s) → IsSameBag (records_in record_of width shown m.made) (flat_map (records_in record_of width shown) m.inputs)
            made_bag tell = m.records (told tell)

            up : AllTell (slots_of shown b t) → All (λ (x : External S R). Ascends cmp (records_in record_of width shown x)) b.runs.external.items
            up tell =
                let P = λ (x : External S R). Ascends cmp (records_in record_of width shown x) in
                let old = kept.tells.1 tell in
                let others = all_left P m.others m.inputs (All-permutation P a.runs.external.items (m.others ++ m.inputs) m.of.parted (rest.rise old).external) in
                subst (All P) (sym m.arrays) (All-push P m.others m.made others (m.ascends (told old)))

-- two numbers that differ
not_equal : (k j : ℕ) → j < k → ◌≡◌ {A = ℕ} (cond (k == j) 1 0) 0
not_equal k j h = grind (arith, nat_tests)

module _ {S R : Type 0} where
  other_level : (level j : ℕ) (xs : List (External S R)) → All (HasLevel level) xs → j < level → count_level j xs ≡ 0
  other_level level j [] all h = refl
  other_level level j (x ∷ xs) all h =
      let is : x.level ≡ level = All-head (HasLevel level) x xs all in
      omega (arith, not_equal x.level j (omega arith), other_level level j xs (All-tail (HasLevel level) x xs all) h, sum_by-cons (λ (y : External S R). cond (y.level == j) 1 0) x xs)

  -- lower levels have as many runs as before
  pub lower-leveled :
      (cmp : R → R → Ordering) (record_of : List ℕ → R) (width : ℕ) (shown : S → Shown) (level : ℕ) (old new : List (External S R)) (s t : Stock) → level ≤ 7 → LevelMerged cmp record_of width shown level old new s t
      → (j : ℕ) → j < level → count_level j new ≡ count_level j old
  lower-leveled cmp record_of width shown level old new s t few m j h =
      let f : External S R → ℕ = λ y. cond (y.level == j) 1 0 in
      omega (
        arith,
        sum_by-IsPermutation f old (m.others ++ m.inputs) m.of.parted,
        sum_by-append f m.others m.inputs,
        other_level level j m.inputs m.of.levels h,
        ap (sum_by f) m.arrays,
        sum_by-append f m.others (m.made ∷ []),
        sum_by-cons f m.made [],
        not_equal m.made.level j (omega (arith, m.level_is)),
      )

above_eight : (a b : ℕ) → 8 < a → a ≤ b → 8 < b
above_eight a b h k = omega arith

lower_or : (j k : ℕ) → j < k + 1 → (j < k) ⊎ (j ≡ k)
lower_or j k h = grind arith

-- runs below a level and at it
one_level : (k top : ℕ) → ◌≡◌ {A = ℕ} (cond (ltb k (top + 1)) 1 0) (cond (ltb k top) 1 0 + cond (k == top) 1 0)
one_level k top = grind (arith, nat_tests)

in_range : (k : ℕ) → k ≤ 7 → ◌≡◌ {A = ℕ} (cond (ltb k 8) 1 0) 1
in_range k h = grind (arith, nat_tests)

out_of_range : (k : ℕ) → ◌≡◌ {A = ℕ} (cond (ltb k 0) 1 0) 0
out_of_range k = grind (arith, nat_tests)

module _ {S R : Type 0} where
  count_below : ℕ → List (External S R) → ℕ
  count_below top arrays = sum_by (λ a. cond (ltb a.level top) 1 0) arrays

  below_more : (top : ℕ) (xs : List (External S R)) → count_below (top + 1) xs ≡ count_below top xs + count_level top xs
  unfolding count_below
  below_more top [] = refl
  below_more top (x ∷ xs) =
      omega (
        arith,
        one_level x.level top,
        below_more top xs,
        sum_by-cons (λ (a : External S R). cond (ltb a.level (top + 1)) 1 0) x xs,
        sum_by-cons (λ (a : External S R). cond (ltb a.level top) 1 0) x xs,
        sum_by-cons (λ (a : External S R). cond (a.level == top) 1 0) x xs,
      )

  below_none : (xs : List (External S R)) → count_below 0 xs ≡ 0
  unfolding count_below
  below_none [] = refl
  below_none (x ∷ xs) = omega (arith, out_of_range x.level, below_none xs, sum_by-cons (λ (a : External S R). cond (ltb a.level 0) 1 0) x xs)

  below_all : (xs : List (External S R)) → All (λ (a : External S R). a.level ≤ 7) xs → count_below 8 xs ≡ length xs
  unfolding count_below
  below_all [] all = refl
  below_all (x ∷ xs) all =
      let here : x.level ≤ 7 = All-head (λ (a : External S R). a.level ≤ 7) x xs all in
      omega (arith, in_range x.level here, below_all xs (All-tail (λ (a : External S R). a.level ≤ 7) x xs all), sum_by-cons (λ (a : External S R). cond (ltb a.level 8) 1 0) x xs)

  -- of 8 levels with at most 8 runs each
  pub levels_few : (xs : List (External S R)) → All (λ (a : External S R). a.level ≤ 7) xs → ((j : ℕ) → j < 8 → count_level j xs ≤ 8) → length xs ≤ 64
  levels_few xs all few =
      omega (
        arith,
        below_all xs all,
        below_none xs,
        below_more 0 xs,
        below_more 1 xs,
        below_more 2 xs,
        below_more 3 xs,
        below_more 4 xs,
        below_more 5 xs,
        below_more 6 xs,
        below_more 7 xs,
        few 0 (lit< tt),
        few 1 (lit< tt),
        few 2 (lit< tt),
        few 3 (lit< tt),
        few 4 (lit< tt),
        few 5 (lit< tt),
        few 6 (lit< tt),
        few 7 (lit< tt),
      )

  -- no level has more runs than the one that has most
  level_below : (level top : ℕ) (xs : List (External S R)) → level < top → count_level level xs ≤ crowd_below top xs
  unfolding crowd_below
  level_below level zero xs h = absurd (omega arith)
  level_below level (suc top) xs h =
      elim (lower_or level top (omega arith)) as (λ _. count_level level xs ≤ crowd_below (suc top) xs) [
        | inl low ↦ omega (arith, level_below level top xs low)
        | inr e ↦ omega (arith, ap (λ k. count_level k xs) e)
      ]

  -- a merge of a level that was refused left the level as crowded as it was
  pub still_crowded : (shown : S → Shown) (level workers : ℕ) (old new : List (External S R)) (old_lanes new_lanes : Lanes (DeviceBlock S R) R) (s t : Stock) → level ≤ 7 → 8 < count_level level old → NoneForLevel shown level workers old new old_lanes new_lanes s t → 8 < crowd_of new
  unfolding crowd_of
  still_crowded shown level workers old new old_lanes new_lanes s t few more none =
      let same = sum_by-IsPermutation (λ (x : External S R). cond (x.level == level) 1 0) old new (subst (IsPermutation old) (sym none.arrays) none.of.parted) in
      above_eight (count_level level new) (crowd_of new) (omega (arith, more, same)) (level_below level 8 new (omega arith))

  -- one level more was looked at
  pub levels_more :
      (level : ℕ) (old new : List (External S R)) → ((j : ℕ) → j < level → count_level j old ≤ 8) → ((j : ℕ) → j < level → count_level j new ≡ count_level j old) → count_level level new ≤ 8
      → (j : ℕ) → j < level + 1 → count_level j new ≤ 8
  levels_more level old new few same here j h =
      elim (lower_or j level h) as (λ _. count_level j new ≤ 8) [ inl low ↦ omega (arith, few j low, same j low) | inr e ↦ subst (λ k. count_level k new ≤ 8) (sym e) here ]
