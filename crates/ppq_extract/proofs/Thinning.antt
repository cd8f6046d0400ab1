-- What is the same after the runs with no record left were taken out of the lists.
use Rattle.std.proofs.Common.{◌≡◌, ℕ, ◌*◌, cond, List, [], ◌++◌, length, map, All, refl, sym, ap, ◌∙◌, arith}
use Rattle.std.specs.Prelude.{sum_by}
use Rattle.std.specs.List.{AllByRecursion as Each}
use Rattle.std.proofs.lemmas.List.Sums.{sum_by-append}
use Rattle.std.proofs.lemmas.List.Elements.{All-from_recursion, recursion_from_All}
use Rattle.std.specs.declared.cmp.Ordering.{Ordering}
use Rattle.ppq_fetch.specs.ppq_record.Order.{Le, is_before, Ascends}
use Rattle.ppq_fetch.specs.ppq_record.Bag.{IsSameBag}
use Rattle.ppq_fetch.specs.ppq_record.Runs.{all_of}
use Rattle.ppq_fetch.proofs.ppq_record.Order.{Each-weaker, Each-same_bag, IsSameBag-append, IsSameBag-trans}
use Rattle.ppq_fetch.specs.ppq_block.Block.{Block}
use Rattle.ppq_fetch.specs.ppq_outside.Shown.{Shown}
use Rattle.ppq_fetch.specs.ppq_array.Run.{Run, items_of, buffers_of}
use Rattle.ppq_fetch.specs.ppq_array.External.{External, size_of, waiting, blocks_items, records_in}
use Rattle.ppq_fetch.specs.ppq_array.Owner.{slots_shown}
use Rattle.ppq_fetch.specs.ppq_array.Supply.{Stock}
use Rattle.ppq_fetch.specs.ppq_array.Kept.{Held, Kept, weight_at, overread}
use Rattle.ppq_fetch.specs.ppq_array.Holdings.{external_slots, external_buffers, internal_buffers, RunHasBlock, HasSlots}
use Rattle.ppq_fetch.specs.Taking.{IsTaken}
use Rattle.ppq_fetch.specs.Fetching.{state, one_if_some, IsFitting, loaded_lists, count_in, fronts_in, blocks_in, waiting_items, source_items, RunsRise, held_in, slots_in, AreSources, MayFetch}
use Rattle.ppq_extract.specs.Emptied.{LostOnly, IsEmptyRun, IsEmptyArray}
use Rattle.ppq_extract.proofs.Removing.{sum_lost, length_lost, All_lost}
use Rattle.ppq_extract.proofs.Emptying.{no_length, no_size, no_buffers_in, no_items_in, no_waiting}
use Rattle.ppq_fetch.proofs.Sums.{sum_flat_map, sum_all_of, sum_two_of}
use Rattle.ppq_extract.proofs.Sums.{SameSums, same_length, same_before}

thin_each : {X : Type 0} (IsLost : X → Type 0) (xs ys : List X) → LostOnly IsLost xs ys → (P : X → Type 0) → Each P xs → Each P ys
thin_each IsLost xs ys l P each = recursion_from_All P ys (All_lost IsLost xs ys l P (All-from_recursion P xs each))

module _ {S R : Type 0} (mi ni : List (Run R)) (me ne : List (External S R)) (li : LostOnly IsEmptyRun mi ni) (le : LostOnly IsEmptyArray me ne) where
  pub thin_count : count_in ni ne ≡ count_in mi me
  thin_count = omega (arith, sum_lost IsEmptyRun mi ni li (λ run. length (items_of run)) no_length, sum_lost IsEmptyArray me ne le size_of no_size)

  pub thin_internal_buffers : internal_buffers ni ≡ internal_buffers mi
  thin_internal_buffers = sum_lost IsEmptyRun mi ni li (λ run. length (buffers_of run)) no_buffers_in

  pub thin_buffers : external_buffers ne ≡ external_buffers me
  thin_buffers = sum_lost IsEmptyArray me ne le (λ a. length (buffers_of a.loaded)) (λ a is. no_buffers_in a.loaded is.loaded)

  pub thin_fronts : fronts_in ne ≡ fronts_in me
  thin_fronts = sum_lost IsEmptyArray me ne le (λ a. one_if_some (items_of a.loaded)) (λ a is. ap one_if_some (no_items_in a.loaded is.loaded))

  pub thin_blocks : blocks_in ne ≡ blocks_in me
  thin_blocks = sum_lost IsEmptyArray me ne le (λ a. length a.stored) (λ a is. ap length is.stored)

  pub thin_slots : (shown : S → Shown) → SameSums (external_slots shown me) (external_slots shown ne)
  thin_slots shown f =
      sum_flat_map f (λ (a : External S R). slots_shown shown a.stored) ne
      ∙ (sum_lost IsEmptyArray me ne le (λ a. sum_by f (slots_shown shown a.stored)) (λ a is. ap (λ bs. sum_by f (slots_shown shown bs)) is.stored)
      ∙ sym (sum_flat_map f (λ (a : External S R). slots_shown shown a.stored) me))

  thin_loaded : SameSums (all_of (loaded_lists mi me)) (all_of (loaded_lists ni ne))
  thin_loaded f =
      let runs = λ (run : Run R). items_of run in
      let arrays = λ (a : External S R). items_of a.loaded in
      let one = sum_lost IsEmptyRun mi ni li (λ run. sum_by f (items_of run)) (λ run is. ap (sum_by f) (no_items_in run is)) in
      let other = sum_lost IsEmptyArray me ne le (λ a. sum_by f (items_of a.loaded)) (λ a is. ap (sum_by f) (no_items_in a.loaded is.loaded)) in
      omega (arith, sum_two_of f (map runs mi) (map arrays me), sum_two_of f (map runs ni) (map arrays ne), sum_all_of f runs mi, sum_all_of f runs ni, sum_all_of f arrays me, sum_all_of f arrays ne, one, other)

  module _ (record_of : List ℕ → R) (width : ℕ) (shown : S → Shown) where
    thin_waiting : SameSums (waiting_items record_of width shown me) (waiting_items record_of width shown ne)
    thin_waiting f =
        let items = λ (a : External S R). blocks_items record_of width shown (waiting a) in
        sum_flat_map f items ne
        ∙ (sum_lost IsEmptyArray me ne le (λ a. sum_by f (blocks_items record_of width shown (waiting a))) (λ a is. ap (λ bs. sum_by f (blocks_items record_of width shown bs)) (no_waiting a is))
        ∙ sym (sum_flat_map f items me))

    module _ (idle : List (Block R)) (stock : Stock) where
      pub thin_bag : IsSameBag (source_items record_of width shown (state mi me idle stock)) (source_items record_of width shown (state ni ne idle stock))
      thin_bag p =
          let f : R → ℕ = λ z. cond (p z) 1 0 in
          omega (arith, sum_by-append f (all_of (loaded_lists mi me)) (waiting_items record_of width shown me), sum_by-append f (all_of (loaded_lists ni ne)) (waiting_items record_of width shown ne), thin_loaded f, thin_waiting f)

      pub thin_taken : (cmp : R → R → Ordering) (bag out : List R) → IsTaken cmp bag out (source_items record_of width shown (state mi me idle stock)) → IsTaken cmp bag out (source_items record_of width shown (state ni ne idle stock))
      thin_taken cmp bag out t =
          let xs = source_items record_of width shown (state mi me idle stock) in
          let ys = source_items record_of width shown (state ni ne idle stock) in
          record {
            moved = IsSameBag-trans bag (out ++ xs) (out ++ ys) t.moved (IsSameBag-append out out xs ys (λ p. refl) thin_bag);
            ascends = t.ascends;
            least = Each-weaker (λ a. Each (Le (is_before cmp) a) xs) (λ a. Each (Le (is_before cmp) a) ys) (λ a e. Each-same_bag (λ b. is_before cmp b a) xs ys thin_bag e) out t.least;
          }

      pub thin_rise : (cmp : R → R → Ordering) → RunsRise record_of width shown cmp (state mi me idle stock) → RunsRise record_of width shown cmp (state ni ne idle stock)
      thin_rise cmp rise = record {
        internal = thin_each IsEmptyRun mi ni li (λ (run : Run R). Ascends cmp (items_of run)) rise.internal;
        external = thin_each IsEmptyArray me ne le (λ (a : External S R). Ascends cmp (records_in record_of width shown a)) rise.external;
      }

  module _ (shown : S → Shown) (idle : List (Block R)) (stock : Stock) where
    pub thin_kept : (old : Stock) (before : Held) → Kept old stock before (held_in shown (state mi me idle stock)) → Kept old stock before (held_in shown (state ni ne idle stock))
    thin_kept old before k =
        let ms = external_slots shown me ++ stock.kept ++ old.drawn in
        let ns = external_slots shown ne ++ stock.kept ++ old.drawn in
        let same : SameSums ms ns = same_before (external_slots shown me ++ stock.kept) (external_slots shown ne ++ stock.kept) old.drawn (same_before (external_slots shown me) (external_slots shown ne) stock.kept (thin_slots shown)) in
        record {
          slots = record {
            length = same_length ms ns same ∙ k.slots.length;
            each_once = λ n. same (weight_at (λ s. 1) n) ∙ k.slots.each_once n;
            faults = λ n. omega (arith, same (weight_at (λ s. s.faults) n), k.slots.faults n);
            writes = λ n. omega (arith, same (weight_at (λ s. s.writes) n), k.slots.writes n);
            reads = λ n. omega (arith, same (weight_at (λ s. s.reads) n), k.slots.reads n);
            sizes = λ n. same (weight_at (λ s. s.size) n) ∙ k.slots.sizes n;
            overreads = omega (arith, same overread, k.slots.overreads);
          };
          slot_room = omega (arith, k.slot_room, same_length (external_slots shown me) (external_slots shown ne) (thin_slots shown));
          buffers = omega (arith, k.buffers, thin_internal_buffers, thin_buffers);
          block = k.block;
        }

    pub thin_in : SameSums (slots_in shown (state mi me idle stock)) (slots_in shown (state ni ne idle stock))
    thin_in = same_before (external_slots shown me) (external_slots shown ne) stock.kept (thin_slots shown)

    pub thin_sources : (width ahead : ℕ) → AreSources shown width ahead (state mi me idle stock) → AreSources shown width ahead (state ni ne idle stock)
    thin_sources width ahead a = record {
      idle = a.idle;
      internal = All_lost IsEmptyRun mi ni li (RunHasBlock stock.block) a.internal;
      external = All_lost IsEmptyArray me ne le (HasSlots shown (stock.block * width)) a.external;
      loaded = All_lost IsEmptyArray me ne le (λ (a : External S R). RunHasBlock stock.block a.loaded) a.loaded;
      fitting = All_lost IsEmptyArray me ne le (λ (a : External S R). All IsFitting (buffers_of a.loaded)) a.fitting;
      internal_fitting = All_lost IsEmptyRun mi ni li (λ (run : Run R). All IsFitting (buffers_of run)) a.internal_fitting;
      internal_spent = thin_each IsEmptyRun mi ni li (λ (run : Run R). run.spent ≡ []) a.internal_spent;
      external_spent = thin_each IsEmptyArray me ne le (λ (a : External S R). a.loaded.spent ≡ []) a.external_spent;
      takes_back = record {
        slots = omega (arith, a.takes_back.slots, same_length (external_slots shown me) (external_slots shown ne) (thin_slots shown));
        buffers = omega (arith, a.takes_back.buffers, thin_internal_buffers);
      };
      fronts = omega (arith, a.fronts, length_lost IsEmptyArray me ne le, thin_buffers);
      bounded = omega (arith, a.bounded, thin_buffers, thin_fronts);
      few_buffers = omega (arith, a.few_buffers, thin_buffers);
      few_runs = omega (arith, a.few_runs, length_lost IsEmptyRun mi ni li, length_lost IsEmptyArray me ne le);
      few_records = omega (arith, a.few_records, thin_count);
    }

    pub thin_may : (width ahead : ℕ) → MayFetch shown width ahead (state mi me idle stock) → MayFetch shown width ahead (state ni ne idle stock)
    thin_may width ahead m = record {
      sources = thin_sources width ahead m.sources;
      none_lifted = thin_each IsEmptyArray me ne le (λ (a : External S R). a.lifted ≡ []) m.none_lifted;
    }
