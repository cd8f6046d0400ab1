-- What a refill leaves: the smallest records in the extract buffer, and runs at rest.
use Rattle.std.proofs.Common.{◌≡◌, ℕ, Bool, ◌+◌, ◌-◌, ◌<◌, ◌≤◌, List, [], ◌∷◌, ◌++◌, length, min, take, drop, get_or, map, Option, None, All, refl, sym, ap, ◌∙◌, subst, arith, append-nil, length-drop}
use Rattle.std.specs.Prelude.{◌↔◌, flat_map, vec_capacity, count_by}
use Rattle.std.specs.declared.cmp.Ordering.{Ordering}
use Rattle.std.proofs.lemmas.List.{get_or-take, get_or-drop, length-take}
use Rattle.std.proofs.lemmas.List.Elements.{All-contains, All-from_recursion, recursion_from_All, All-drop}
use Rattle.std.proofs.lemmas.List.Concat.{flat_map-cons}
use Rattle.ppq_heap.specs.ppq_record.Order.{Ascends}
use Rattle.ppq_heap.specs.ppq_record.Bag.{IsSameBag}
use Rattle.ppq_heap.specs.ppq_record.Runs.{all_of}
use Rattle.ppq_heap.proofs.ppq_record.Order.{count_by-append}
use Rattle.ppq_extract.specs.ppq_outside.Shown.{Shown, Tells, AllTell}
use Rattle.ppq_extract.specs.ppq_budget.Sizes.{Numbers, AreInRange, fixed_of}
use Rattle.ppq_extract.specs.ppq_array.declared.berth.DeviceBlock.{DeviceBlock}
use Rattle.ppq_extract.specs.ppq_array.Run.{Run, items_of}
use Rattle.ppq_extract.specs.ppq_array.External.{External, records_in, IsPacked, waiting, blocks_items}
use Rattle.ppq_extract.specs.ppq_array.Supply.{Stock}
use Rattle.ppq_extract.specs.ppq_array.Kept.{Kept, SameSlots, all_writes}
use Rattle.ppq_extract.specs.ppq_array.Holdings.{internal_items, external_slots}
use Rattle.ppq_extract.proofs.ppq_array.Noted.{all_left}
use Rattle.ppq_extract.specs.ppq_fetch.Fetching.{State, held_in, slots_in, count_in, MayFetch, source_items, loaded_lists, waiting_items, SourcesTell, RunsRise, MoreReads}
use Rattle.ppq_extract.specs.Extracted.{sources_of, Refilled}
use Rattle.ppq_spill.specs.declared.body.PassBody.{PassBody}
use Rattle.ppq_queue.specs.Resting.{BodyKept, IsRestingRun, IsRestingArray, AllRise, AtRest, Readied, runs_bag, slots_of}
use Rattle.ppq_queue.proofs.Bounds.{blocks_hold, pool_small, runs_few, idle_most, records_most}
use Rattle.ppq_queue.proofs.Amounts.{fronts_few}
use Rattle.ppq_queue.proofs.Odd.{odd_most}
use Rattle.ppq_queue.proofs.Slots.{slots-no_job, quiet-free}
use Rattle.ppq_queue.proofs.Moves.{none_after-same, rest-moved}

module _ {S R : Type 0} where
  -- the last blocks of a packed run
  pub packed-drop : (block k : ℕ) (xs : List (DeviceBlock S R)) → IsPacked block xs → IsPacked block (drop k xs)
  packed-drop block k xs is = record { full = full; last = All-drop (λ (b : DeviceBlock S R). b.count ≤ block) k xs is.last }
    where
      full : All (λ (b : DeviceBlock S R). b.count ≡ block) (take (length (drop k xs) - 1) (drop k xs))
      full i d h =
          let long = length-take (length (drop k xs) - 1) (drop k xs) in
          let rest = length-drop k xs in
          let few : i < length (drop k xs) - 1 = omega (arith, h, long) in
          let here = is.full (k + i) d (omega (arith, few, rest, length-take (length xs - 1) xs)) in
          let e : get_or (take (length (drop k xs) - 1) (drop k xs)) i d ≡ get_or (take (length xs - 1) xs) (k + i) d =
          get_or-take (length (drop k xs) - 1) (drop k xs) i d few ∙ get_or-drop k xs i d ∙ sym (get_or-take (length xs - 1) xs (k + i) d (omega (arith, few, rest)))
          in
          ap (λ (b : DeviceBlock S R). b.count) e ∙ here

  one_slot : (shown : S → Shown) (a : PassBody S R) (s : Stock) → a.lanes.jobs.items ≡ [] → AllTell (slots_of shown a s) → AllTell (external_slots shown a.runs.external.items)
  one_slot shown a s none tell = all_left Tells (external_slots shown a.runs.external.items) s.kept (subst AllTell (slots-no_job shown a s none) tell)

module _ {S R : Type 0} (shown : S → Shown) where
  abbrev source : PassBody S R → Stock → State S R
  source a s = sources_of a.runs a.lanes.idle s

  -- what a refill keeps, whatever it answers
  pub kept-refilled :
      (a b : PassBody S R) (s t : Stock)
      → Kept s t (held_in shown (source a s)) (held_in shown (source b t)) → (AllTell (slots_in shown (source a s)) ↔ AllTell (slots_in shown (source b t))) → (k : ℕ) → MoreReads k (slots_in shown (source a s)) (slots_in shown (source b t))
      → a.lanes.jobs.items ≡ [] → b.lanes.jobs.items ≡ [] → b.tree ≡ a.tree → vec_capacity b.runs.internal ≡ vec_capacity a.runs.internal → vec_capacity b.runs.external ≡ vec_capacity a.runs.external
      → length t.kept + t.slot_room ≡ length s.kept + s.slot_room → t.sure_buffers + t.buffer_room ≡ s.sure_buffers + s.buffer_room → s.drawn ≡ [] → t.drawn ≡ []
      → BodyKept shown a b s t
  kept-refilled a b s t ks tells k reads none none' tree int_room ext_room home_slots home_buffers no_row no_row' =
      let ea = external_slots shown a.runs.external.items in
      let eb = external_slots shown b.runs.external.items in
      let sa : ea ++ s.kept ≡ slots_of shown a s = sym (slots-no_job shown a s none) in
      let sb : eb ++ t.kept ≡ slots_of shown b t = sym (slots-no_job shown b t none') in
      let before : ea ++ s.kept ++ t.drawn ≡ slots_of shown a s = ap (λ (l : List Shown). ea ++ s.kept ++ l) no_row' ∙ append-nil (ea ++ s.kept) ∙ sa in
      let after : eb ++ t.kept ++ s.drawn ≡ slots_of shown b t = ap (λ (l : List Shown). eb ++ t.kept ++ l) no_row ∙ append-nil (eb ++ t.kept) ∙ sb in
      record {
        slots = subst (λ (x : List Shown). SameSlots x (slots_of shown b t)) before (subst (λ (y : List Shown). SameSlots (ea ++ s.kept ++ t.drawn) y) after ks.slots);
        tells = (
          (λ tell. subst AllTell sb (tells.0 (subst AllTell (sym sa) tell))),
          (λ tell. subst AllTell sa (tells.1 (subst AllTell (sym sb) tell))),
        );
        writes = omega (arith, reads.writes, ap all_writes sa, ap all_writes sb);
        held = omega (arith, ks.buffers, ap length none, ap length none');
        all_slots = home_slots;
        all_buffers = home_buffers;
        block = ks.block;
        internal_room = int_room;
        external_room = ext_room;
        leaves = ap (λ v. length v.items) tree;
      }

  module _ (cmp : R → R → Ordering) (record_of : List ℕ → R) (width : ℕ) (n : Numbers) where
    -- a body at rest can be refilled from
    pub may_fetch : (a : PassBody S R) (s : Stock) → AtRest shown cmp record_of width n a s → AreInRange n → fixed_of n ≤ n.memory → length a.runs.external.items ≤ 64 → MayFetch shown width n.workers (source a s)
    may_fetch a s rest range budget few =
        let idle = idle_most shown cmp record_of width n a s rest in
        record {
          sources = record {
            idle = rest.idle;
            internal = λ k d h. (rest.internal k d h).blocks;
            external = λ k d h. (rest.external k d h).size;
            loaded = λ k d h. (rest.external k d h).loaded;
            internal_fitting = λ k d h. (rest.internal k d h).fitting;
            fitting = λ k d h. (rest.external k d h).fitting;
            internal_spent = recursion_from_All (λ (run : Run R). run.spent ≡ []) a.runs.internal.items (λ k d h. (rest.internal k d h).spent);
            external_spent = recursion_from_All (λ (x : External S R). x.loaded.spent ≡ []) a.runs.external.items (λ k d h. (rest.external k d h).spent);
            takes_back = rest.takes_back;
            fronts = omega (arith, few, rest.buffers, range.some_worker);
            bounded = rest.bounded;
            few_buffers = omega (arith, idle, pool_small n, range.workers);
            few_runs = omega (arith, runs_few shown cmp record_of width n a s rest, pool_small n, few);
            few_records = omega (arith, records_most shown cmp record_of width n a s rest range budget 0 0 (omega arith) (omega arith), range.memory, blocks_hold n range);
          };
          none_lifted = recursion_from_All (λ (x : External S R). x.lifted ≡ []) a.runs.external.items (λ k d h. (rest.external k d h).lifted);
        }

    -- sources are the records of all runs
    count-all_of : (p : R → Bool) (xs ys : List (List R)) → count_by p (all_of (xs ++ ys)) ≡ count_by p (all_of xs) + count_by p (all_of ys)
    count-all_of p [] ys = omega arith
    count-all_of p (x ∷ xs) ys = omega (arith, count_by-append p x (all_of (xs ++ ys)), count_by-append p x (all_of xs), count-all_of p xs ys)

    count-internal : (p : R → Bool) (xs : List (Run R)) → count_by p (all_of (map items_of xs)) ≡ count_by p (internal_items xs)
    count-internal p [] = refl
    count-internal p (x ∷ xs) = omega (arith, count_by-append p (items_of x) (all_of (map items_of xs)), count-internal p xs, ap (count_by p) (flat_map-cons (λ (run : Run R). items_of run) x xs), count_by-append p (items_of x) (internal_items xs))

    count-external : (p : R → Bool) (xs : List (External S R)) → count_by p (all_of (map (λ (x : External S R). items_of x.loaded) xs)) + count_by p (waiting_items record_of width shown xs) ≡ count_by p (flat_map (records_in record_of width shown) xs)
    count-external p [] = refl
    count-external p (x ∷ xs) =
        omega (
          arith,
          count_by-append p (items_of x.loaded) (all_of (map (λ (x : External S R). items_of x.loaded) xs)),
          ap (count_by p) (flat_map-cons (λ (x : External S R). blocks_items record_of width shown (waiting x)) x xs),
          count_by-append p (blocks_items record_of width shown (waiting x)) (waiting_items record_of width shown xs),
          count-external p xs,
          ap (count_by p) (flat_map-cons (records_in record_of width shown) x xs),
          count_by-append p (records_in record_of width shown x) (flat_map (records_in record_of width shown) xs),
          count_by-append p (items_of x.loaded) (blocks_items record_of width shown (waiting x)),
        )

    pub sources-bag : (a : PassBody S R) (s : Stock) → IsSameBag (source_items record_of width shown (source a s)) (runs_bag shown record_of width a)
    sources-bag a s p =
        omega (
          arith,
          count_by-append p (all_of (loaded_lists a.runs.internal.items a.runs.external.items)) (waiting_items record_of width shown a.runs.external.items),
          count-all_of p (map items_of a.runs.internal.items) (map (λ (x : External S R). items_of x.loaded) a.runs.external.items),
          count-internal p a.runs.internal.items,
          count-external p a.runs.external.items,
          count_by-append p (internal_items a.runs.internal.items) (flat_map (records_in record_of width shown) a.runs.external.items),
        )

    -- where each run of a body ascends, so do those that a refill reads
    pub rises-in : (a : PassBody S R) (s : Stock) → AllRise shown cmp record_of width a → RunsRise record_of width shown cmp (source a s)
    rises-in a s rise =
        record {
          internal = recursion_from_All (λ (run : Run R). Ascends cmp (items_of run)) a.runs.internal.items rise.internal;
          external = recursion_from_All (λ (x : External S R). Ascends cmp (records_in record_of width shown x)) a.runs.external.items rise.external;
        }

    pub rises-out : (b : PassBody S R) (t : Stock) → RunsRise record_of width shown cmp (source b t) → AllRise shown cmp record_of width b
    rises-out b t rise =
        record {
          internal = All-from_recursion (λ (run : Run R). Ascends cmp (items_of run)) b.runs.internal.items rise.internal;
          external = All-from_recursion (λ (x : External S R). Ascends cmp (records_in record_of width shown x)) b.runs.external.items rise.external;
        }

    -- each run that a refill leaves rests, with or without a limit, if those before did
    module _ {limit : Option R} {w : ℕ} (a b : PassBody S R) (s t : Stock) {out : List R} (r : Refilled cmp record_of width shown limit (source a s) (source b t) out) (may : MayFetch shown width w (source b t)) where
      pub runs-refilled : All (IsRestingRun t.block) b.runs.internal.items
      runs-refilled k d h = record {
        some = r.some_internal k d h;
        spent = All-from_recursion (λ (run : Run R). run.spent ≡ []) b.runs.internal.items may.sources.internal_spent k d h;
        blocks = may.sources.internal k d h;
        fitting = may.sources.internal_fitting k d h;
      }

      pub arrays-refilled : t.block ≡ s.block → All (IsRestingArray shown width s.block) a.runs.external.items → All (IsRestingArray shown width t.block) b.runs.external.items
      arrays-refilled block rest k d h =
          let from = r.came_from k d h in
          let old = All-contains (IsRestingArray shown width s.block) a.runs.external.items from.before rest from.there in
          let went = from.went_on in
          record {
            some = r.some_external k d h;
            level = omega (arith, went.level, old.level);
            lifted = All-from_recursion (λ (x : External S R). x.lifted ≡ []) b.runs.external.items may.none_lifted k d h;
            size = may.sources.external k d h;
            loaded = may.sources.loaded k d h;
            fitting = may.sources.fitting k d h;
            spent = All-from_recursion (λ (x : External S R). x.loaded.spent ≡ []) b.runs.external.items may.sources.external_spent k d h;
            packed = subst (IsPacked t.block) (sym went.stored) (packed-drop t.block went.loads from.before.stored (subst (λ m. IsPacked m from.before.stored) (sym block) old.packed));
            written = subst (All (λ (b : DeviceBlock S R). 1 ≤ (shown b.slot).writes)) (sym went.stored) (All-drop (λ (b : DeviceBlock S R). 1 ≤ (shown b.slot).writes) went.loads from.before.stored old.written);
          }

    module _ (a b : PassBody S R) (s t : Stock) (out : List R) (rest : AtRest shown cmp record_of width n a s) (kept : BodyKept shown a b s t) (few : length a.runs.external.items ≤ 64) (r : Refilled cmp record_of width shown None (source a s) (source b t) out) (may : MayFetch shown width n.workers (source b t)) (none' : b.lanes.jobs.items ≡ []) (batch : b.lanes.batch ≡ a.lanes.batch) where
      rises : AllTell (slots_of shown a s) → RunsRise record_of width shown cmp (source a s)
      rises tell = rises-in a s (rest.rise tell)

      told : AllTell (slots_of shown a s) → SourcesTell shown (source a s)
      told tell = one_slot shown a s rest.no_job tell

      rest_now : AtRest shown cmp record_of width n b t
      rest_now =
          rest-moved rest kept may.sources.idle none' (ap (λ v. length v.items) batch) may.sources.takes_back (runs-refilled a b s t r may) (arrays-refilled a b s t r may kept.block rest.external) (omega (arith, r.buffers)) may.sources.bounded (omega (arith, fronts_few b.runs.external.items, r.external, few))
          (omega (arith, odd_most t.block b.runs.external.items, r.external, few))
          (λ tell.
          let was = kept.tells.1 tell in
          rises-out b t (r.rise (told was) (rises was)))

      pub readied-refilled : (room : ℕ) → 0 < room → length out ≡ min room (count_in a.runs.internal.items a.runs.external.items) → Readied shown cmp record_of width n [] out a b s t
      readied-refilled room some all = record {
        rest = rest_now;
        quiet = quiet-free shown a b s t rest.no_job none' r.quiet;
        bag = λ tell p.
            let taken = r.taken (told tell) (rises tell) in
            omega (
              arith,
              taken.moved p,
              count_by-append p out (source_items record_of width shown (source b t)),
              count_by-append p out (runs_bag shown record_of width b),
              sources-bag a s p,
              sources-bag b t p,
            );
        count = omega (arith, r.counted);
        ascends = λ tell. (r.taken (told tell) (rises tell)).ascends;
        order = λ tell. none_after-same cmp out (source_items record_of width shown (source b t)) (runs_bag shown record_of width b) (sources-bag b t) (r.taken (told tell) (rises tell)).least;
        some = λ e. omega (arith, all, r.counted, ap length e, some);
      }
