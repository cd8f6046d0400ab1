-- What two merges side by side ask for, and how they end together.
use Rattle.std.proofs.Common.{◌≡◌, ℕ, ◌+◌, ◌-◌, ◌*◌, ◌<◌, ◌≤◌, ◌^◌, List, [], ◌∷◌, ◌++◌, length, take, drop, sum_by, All, refl, sym, ap, ◌∙◌, subst, arith, length-append, take-append-drop, IsPermutation}
use Rattle.std.specs.Prelude.{Result, Ok, Err, ⊤}
use Rattle.std.specs.declared.cmp.Ordering.{Ordering}
use Rattle.std.proofs.lemmas.List.{length-drop, length-take, drop-drop, append_assoc}
use Rattle.std.proofs.lemmas.List.Sums.{sum_by-append}
use Rattle.std.proofs.lemmas.List.Sorted.{All-permutation, IsPermutation-refl, sum_by-IsPermutation}
use Rattle.std.proofs.lemmas.List.Elements.{All-append, All-nil}
use Rattle.ppq_fetch.specs.ppq_block.Block.{Block}
use Rattle.ppq_fetch.specs.ppq_outside.Shown.{Shown}
use Rattle.ppq_fetch.specs.ppq_lane.declared.lanes.Lanes.{Lanes}
use Rattle.ppq_fetch.specs.ppq_array.declared.berth.DeviceBlock.{DeviceBlock}
use Rattle.ppq_fetch.specs.ppq_array.declared.store_fault.StoreFault.{StoreFault}
use Rattle.ppq_fetch.specs.ppq_array.declared.store_fault.StoreFault.TheVariants.{NoFreeBlock, Device}
use Rattle.ppq_fetch.specs.ppq_array.Run.{items_of, buffers_of}
use Rattle.ppq_fetch.specs.ppq_array.External.{External, size_of, IsPacked}
use Rattle.ppq_fetch.specs.ppq_array.Supply.{Stock}
use Rattle.ppq_fetch.specs.ppq_array.Owner.{slots_shown, HasBlock, HasSlot, new_owner}
use Rattle.ppq_fetch.specs.ppq_array.Holdings.{external_slots, external_buffers, RunHasBlock, HasSlots}
use Rattle.ppq_fetch.proofs.ppq_array.Noted.{all_left, all_right}
use Rattle.ppq_fetch.specs.Fetching.{IsFitting, fronts_in, one_if_some}
use Rattle.ppq_spill.specs.Leveling.{HasLevel, MayLevel, AreOneSize, ArraysAscend}
use Rattle.ppq_spill.specs.Making.{Table, table, last_eight, held_slots, MayMerge, MergeEnds, Merging}
use Rattle.ppq_spill.specs.Pairing.{MayPair, PairEnds, last_part, part_before, all_but_sixteen, ended, placed_pair, with_rest}
use Rattle.ppq_spill.proofs.Fetches.{slots_counted}
use Rattle.ppq_spill.proofs.Keeping.{slots_long}
use Rattle.ppq_spill.proofs.Ends.{may_merge}
use Rattle.ppq_spill.proofs.Paired.{new_array, pair_merged}
use Rattle.ppq_spill.proofs.Moving.{draws_none}
use Rattle.ppq_spill.proofs.Stopped.{pair_stopped, failed_a, failed_b}

module _ {S R : Type 0} (shown : S → Shown) (width workers level : ℕ) (at_most : level ≤ 7) (old g : List (External S R)) (lanes : Lanes (DeviceBlock S R) R) (stock : Stock) (lent rest : List (Block R))
    (moved : IsPermutation old g) (enough : 16 ≤ length g) (levels : All (HasLevel level) (drop (length g - 16) g)) (may : MayLevel shown width workers old lanes stock) (pair : MayPair workers old lanes stock)
    (idle_is : lanes.idle ≡ lent ++ rest) (ten : length lent ≡ 10) where
  abbrev high : List (External S R)
  high = last_part g

  abbrev low : List (External S R)
  low = part_before g

  tail_is : low ++ high ≡ drop (length g - 16) g
  tail_is = take-append-drop 8 (drop (length g - 16) g)

  high_is : last_eight g ≡ high
  high_is = sym (drop-drop 8 (length g - 16) g ∙ ap (λ k. drop k g) (let e : length g - 16 + 8 ≡ length g - 8 = omega (arith, enough) in e))

  tail_levels : All (HasLevel level) (low ++ high)
  tail_levels = subst (All (HasLevel level)) (sym tail_is) levels

  low_long : length low ≡ 8
  low_long = omega (arith, length-take 8 (drop (length g - 16) g), length-drop (length g - 16) g, enough)

  -- of all arrays, and of those that are merged aside
  all_low : (P : External S R → Type 0) → All P old → All P low
  all_low P all =
      let now = subst (All P) (sym (take-append-drop (length g - 16) g)) (All-permutation P old g moved all) in
      all_left P low high (subst (All P) (sym tail_is) (all_right P (take (length g - 16) g) (drop (length g - 16) g) now))

  sum_parts : (f : External S R → ℕ) → sum_by f old ≡ sum_by f (take (length g - 16) g) + sum_by f low + sum_by f high
  sum_parts f =
      omega (
        arith,
        sum_by-IsPermutation f old g moved,
        ap (sum_by f) (take-append-drop (length g - 16) g),
        sum_by-append f (take (length g - 16) g) (drop (length g - 16) g),
        ap (sum_by f) tail_is,
        sum_by-append f low high,
      )

  blocks_lent : All (HasBlock stock.block) lent
  blocks_lent = all_left (HasBlock stock.block) lent rest (subst (All (HasBlock stock.block)) idle_is may.size.idle)

  long_idle : length lanes.idle ≡ 10 + length rest
  long_idle = omega (arith, ap length idle_is, length-append lent rest, ten)

  -- with the buffers that are left
  may_rest : MayLevel shown width workers old (record lanes { idle = rest }) stock
  may_rest =
      record {
        size = record {
          some = may.size.some;
          small = may.size.small;
          idle = all_right (HasBlock stock.block) lent rest (subst (All (HasBlock stock.block)) idle_is may.size.idle);
          external = may.size.external;
          loaded = may.size.loaded;
          takes_back = may.size.takes_back;
        };
        lifted = may.lifted;
        spent = may.spent;
        fitting = may.fitting;
        packed = may.packed;
        buffers = omega (arith, pair.buffers, long_idle);
        no_job = may.no_job;
        batch = may.batch;
        bounded = may.bounded;
        few_buffers = omega (arith, may.few_buffers, long_idle);
        few_blocks = may.few_blocks;
        few_records = may.few_records;
      }

  pub may_high : (places : ℕ) → 1 ≤ workers → 8 ≤ places → MayMerge shown width workers places (length lanes.batch.items) (table high rest (new_array level) [] stock)
  may_high places worker bench =
      let sums = sum_parts (λ (a : External S R). length (buffers_of a.loaded)) in
      let long : length {A = DeviceBlock S R} [] ≡ external_buffers (last_eight g) = omega (arith, pair.none_loaded, sums, ap external_buffers high_is) in
      subst (λ i. MayMerge shown width workers places (length lanes.batch.items) (table i rest (new_array level) [] stock)) high_is
      (may_merge shown width workers level old g (record lanes { idle = rest }) stock at_most moved (omega (arith, enough)) (subst (All (HasLevel level)) (sym high_is) (all_right (HasLevel level) low high tail_levels)) may_rest stock []
      (draws_none shown width stock) long (new_array level) refl places worker bench)

  -- the same with what is equal
  pub may_high_as :
      (i : List (External S R)) (l : Lanes (DeviceBlock S R) R) (made : External S R) (berths : List (DeviceBlock S R)) → i ≡ high → l ≡ record lanes { idle = rest } → made ≡ new_array level → berths ≡ [] → (places : ℕ) → 1 ≤ workers → 8 ≤ places
      → MayMerge shown width workers places (length l.batch.items) (table i l.idle made berths stock)
  may_high_as i l made berths ei el em eb places worker bench =
      subst (λ x. MayMerge shown width workers places (length l.batch.items) (table x l.idle made berths stock)) (sym ei)
      (subst (λ (k : Lanes (DeviceBlock S R) R). MayMerge shown width workers places (length k.batch.items) (table high k.idle made berths stock)) (sym el)
      (subst (λ x. MayMerge shown width workers places (length lanes.batch.items) (table high rest x berths stock)) (sym em)
      (subst (λ x. MayMerge shown width workers places (length lanes.batch.items) (table high rest (new_array level) x stock)) (sym eb) (may_high places worker bench))))

  abbrev aside : Stock
  aside = new_owner stock.block (2 ^ 32 - 2) 0

  module _ (lent_lanes : Lanes (DeviceBlock S R) R) (lent_idle : lent_lanes.idle ≡ lent) (no_job : lent_lanes.jobs.items ≡ []) (batch : length lent_lanes.batch.items ≡ stock.block) where
    may_aside : MayLevel shown width 1 low lent_lanes aside
    may_aside =
        let buf : External S R → ℕ = λ a. length (buffers_of a.loaded) in
        let sums = sum_parts buf in
        let blocks = sum_parts (λ (a : External S R). length a.stored) in
        let sizes = sum_parts size_of in
        record {
          size = record {
            some = may.size.some;
            small = may.size.small;
            idle = subst (All (HasBlock stock.block)) (sym lent_idle) blocks_lent;
            external = all_low (HasSlots shown (stock.block * width)) may.size.external;
            loaded = all_low (λ (a : External S R). RunHasBlock stock.block a.loaded) may.size.loaded;
            takes_back = omega (arith, slots_counted shown low, blocks, may.few_blocks);
          };
          lifted = all_low (λ (a : External S R). a.lifted ≡ []) may.lifted;
          spent = all_low (λ (a : External S R). a.loaded.spent ≡ []) may.spent;
          fitting = all_low (λ (a : External S R). All IsFitting (buffers_of a.loaded)) may.fitting;
          packed = all_low (λ (a : External S R). IsPacked stock.block a.stored) may.packed;
          buffers = omega (arith, ap length lent_idle, ten);
          no_job = no_job;
          batch = omega (arith, batch);
          bounded = omega (arith, pair.none_loaded, sums);
          few_buffers = omega (arith, pair.none_loaded, sums, ap length lent_idle, ten);
          few_blocks = omega (arith, pair.none_loaded, sums, blocks, may.few_blocks);
          few_records = omega (arith, sizes, may.few_records);
        }

    pub may_low : (places : ℕ) → 8 ≤ places → MayMerge shown width 1 places (length lent_lanes.batch.items) (table low lent_lanes.idle (new_array level) [] aside)
    may_low places bench =
        let sums = sum_parts (λ (a : External S R). length (buffers_of a.loaded)) in
        let whole : last_eight low ≡ low = ap (λ k. drop k low) (let e : length low - 8 ≡ 0 = omega (arith, low_long) in e) in
        let long : length {A = DeviceBlock S R} [] ≡ external_buffers (last_eight low) = omega (arith, pair.none_loaded, sums, ap external_buffers whole) in
        subst (λ i. MayMerge shown width 1 places (length lent_lanes.batch.items) (table i lent_lanes.idle (new_array level) [] aside)) whole
        (may_merge shown width 1 level low low lent_lanes aside at_most (IsPermutation-refl low) (omega (arith, low_long)) (subst (All (HasLevel level)) (sym whole) (all_left (HasLevel level) low high tail_levels)) may_aside aside [] (draws_none shown width aside) long
        (new_array level) refl places (omega arith) bench)

    pub may_low_as :
        (i : List (External S R)) (made : External S R) (berths : List (DeviceBlock S R)) (s : Stock) (w : ℕ) → i ≡ low → made ≡ new_array level → berths ≡ [] → s ≡ aside → w ≡ 1 → (places : ℕ) → 8 ≤ places
        → MayMerge shown width w places (length lent_lanes.batch.items) (table i lent_lanes.idle made berths s)
    may_low_as i made berths s w ei em eb es ew places bench =
        subst (λ k. MayMerge shown width k places (length lent_lanes.batch.items) (table i lent_lanes.idle made berths s)) (sym ew)
        (subst (λ x. MayMerge shown width 1 places (length lent_lanes.batch.items) (table x lent_lanes.idle made berths s)) (sym ei)
        (subst (λ x. MayMerge shown width 1 places (length lent_lanes.batch.items) (table low lent_lanes.idle x berths s)) (sym em)
        (subst (λ x. MayMerge shown width 1 places (length lent_lanes.batch.items) (table low lent_lanes.idle (new_array level) x s)) (sym eb)
        (subst (λ x. MayMerge shown width 1 places (length lent_lanes.batch.items) (table low lent_lanes.idle (new_array level) [] x)) (sym es) (may_low places bench)))))

  -- how they ended, with what is equal
  module _ (cmp : R → R → Ordering) (record_of : List ℕ → R) (t : Table S R) (r : Result ⊤ StoreFault) where
    pub ends_high :
        (i : List (External S R)) (l : Lanes (DeviceBlock S R) R) (made : External S R) (berths : List (DeviceBlock S R)) → i ≡ high → l ≡ record lanes { idle = rest } → made ≡ new_array level → berths ≡ []
        → MergeEnds cmp record_of width workers shown (table i l.idle made berths stock) t r → MergeEnds cmp record_of width workers shown (table high rest (new_array level) [] stock) t r
    ends_high i l made berths ei el em eb ends =
        subst (λ x. MergeEnds cmp record_of width workers shown (table high rest (new_array level) x stock) t r) eb
        (subst (λ x. MergeEnds cmp record_of width workers shown (table high rest x berths stock) t r) em
        (subst (λ (k : Lanes (DeviceBlock S R) R). MergeEnds cmp record_of width workers shown (table high k.idle made berths stock) t r) el
        (subst (λ x. MergeEnds cmp record_of width workers shown (table x l.idle made berths stock) t r) ei ends)))

    pub ends_low :
        (i : List (External S R)) (made : External S R) (berths : List (DeviceBlock S R)) (s : Stock) (w : ℕ) → i ≡ low → made ≡ new_array level → berths ≡ [] → s ≡ aside → w ≡ 1 → MergeEnds cmp record_of width w shown (table i lent made berths s) t r
        → MergeEnds cmp record_of width 1 shown (table low lent (new_array level) [] aside) t r
    ends_low i made berths s w ei em eb es ew ends =
        subst (λ x. MergeEnds cmp record_of width 1 shown (table low lent (new_array level) [] x) t r) es
        (subst (λ x. MergeEnds cmp record_of width 1 shown (table low lent (new_array level) x s) t r) eb
        (subst (λ x. MergeEnds cmp record_of width 1 shown (table low lent x berths s) t r) em
        (subst (λ x. MergeEnds cmp record_of width 1 shown (table x lent made berths s) t r) ei
        (subst (λ k. MergeEnds cmp record_of width k shown (table i lent made berths s) t r) ew ends))))

  -- after they ended
  module _ (cmp : R → R → Ordering) (record_of : List ℕ → R) (new now_arrays : List (External S R)) (lanes' : Lanes (DeviceBlock S R) R) (now : Stock) (a b : Table S R) (ascend : ArraysAscend cmp record_of width shown old stock)
      (home_b : length b.hand.stock.kept + b.hand.stock.slot_room ≡ 2 ^ 32 - 2) where
    -- what holds however a merge ended
    later_of : (w : ℕ) (o t : Table S R) (r : Result ⊤ StoreFault) → MergeEnds cmp record_of width w shown o t r → ℕ
    later_of w o t (Ok v) ends = 0
    later_of w o t (Err fault) ends = ends.later

    merging_of : (w : ℕ) (o t : Table S R) (r : Result ⊤ StoreFault) (ends : MergeEnds cmp record_of width w shown o t r) → Merging shown width (later_of w o t r ends) o t
    unfolding later_of
    merging_of w o t (Ok v) ends = ends.0.merging
    merging_of w o t (Err fault) ends = ends.merging

    module _ (one two : Result ⊤ StoreFault) (ends_a : MergeEnds cmp record_of width workers shown (table high rest (new_array level) [] stock) a one) (ends_b : MergeEnds cmp record_of width 1 shown (table low lent (new_array level) [] aside) b two) where
      mine : Merging shown width (later_of workers (table high rest (new_array level) [] stock) a one ends_a) (table high rest (new_array level) [] stock) a
      mine = merging_of workers (table high rest (new_array level) [] stock) a one ends_a

      other : Merging shown width (later_of 1 (table low lent (new_array level) [] aside) b two ends_b) (table low lent (new_array level) [] aside) b
      other = merging_of 1 (table low lent (new_array level) [] aside) b two ends_b

      -- the supply can take back what is left
      pub rest_fits : length a.hand.berths + length b.hand.stock.kept + length b.hand.berths ≤ a.hand.stock.slot_room
      rest_fits =
          omega (
            arith,
            mine.room,
            other.room,
            home_b,
            may.size.takes_back,
            slots_counted shown old,
            slots_counted shown low,
            slots_counted shown high,
            sum_parts (λ (x : External S R). length x.stored),
          )

      pub rest_block : b.hand.stock.block ≡ a.hand.stock.block
      rest_block = other.rest.block ∙ sym mine.rest.block

      pub rest_sizes : All (HasSlot shown (a.hand.stock.block * width)) (a.hand.berths ++ b.hand.berths)
      rest_sizes =
          let P = HasSlot {S = S} {R = R} shown (stock.block * width) in
          subst (λ k. All (HasSlot shown (k * width)) (a.hand.berths ++ b.hand.berths)) (sym mine.rest.block) (All-append P a.hand.berths b.hand.berths (all_right P a.hand.made.stored a.hand.berths mine.sizes) (all_right P b.hand.made.stored b.hand.berths other.sizes))

      pub idle_few : length a.idle + length b.idle < 2 ^ 32 - 1
      idle_few =
          let sums = sum_parts (λ (x : External S R). length (buffers_of x.loaded)) in
          omega (arith, mine.buffers, other.buffers, pair.none_loaded, sums, may.few_buffers, long_idle, ten)

    -- how they end together
    module _ (now_is : now ≡ with_rest a.hand.stock (slots_shown shown a.hand.berths) b.hand.stock.kept (slots_shown shown b.hand.berths)) (idle_now : lanes'.idle ≡ a.idle ++ b.idle) (jobs : lanes'.jobs.items ≡ lanes.jobs.items)
        (batch : length lanes'.batch.items ≡ length lanes.batch.items) (front_is : all_but_sixteen now_arrays ≡ all_but_sixteen g) (long : length now_arrays ≡ length g) (inputs_a : last_part now_arrays ≡ a.inputs) (inputs_b : part_before now_arrays ≡ b.inputs) where
      now_whole : now_arrays ≡ all_but_sixteen g ++ b.inputs ++ a.inputs
      now_whole =
          let m = length now_arrays - 16 in
          sym (take-append-drop m now_arrays) ∙ ap (λ xs. take m now_arrays ++ xs) (sym (take-append-drop 8 (drop m now_arrays))) ∙ sym (append_assoc (take m now_arrays) (take 8 (drop m now_arrays)) (drop 8 (drop m now_arrays)))
          ∙ ap (λ xs. xs ++ part_before now_arrays ++ last_part now_arrays) front_is ∙ ap (λ xs. all_but_sixteen g ++ xs ++ last_part now_arrays) inputs_b ∙ ap (λ xs. all_but_sixteen g ++ b.inputs ++ xs) inputs_a

      fits : length (external_slots shown g) ≤ stock.slot_room
      fits = omega (arith, may.size.takes_back, slots_counted shown g, slots_counted shown old, sum_by-IsPermutation (λ (x : External S R). length x.stored) old g moved)

      stopped_new : new ≡ now_arrays ++ a.hand.made ∷ b.hand.made ∷ [] → new ≡ (all_but_sixteen g ++ b.inputs ++ a.inputs) ++ a.hand.made ∷ b.hand.made ∷ []
      stopped_new is = is ∙ ap (λ xs. xs ++ a.hand.made ∷ b.hand.made ∷ []) now_whole

      pub pair_ends :
          (one two : Result ⊤ StoreFault) → MergeEnds cmp record_of width workers shown (table high rest (new_array level) [] stock) a one → MergeEnds cmp record_of width 1 shown (table low lent (new_array level) [] aside) b two
          → new ≡ placed_pair (ended one two) now_arrays a.hand.made b.hand.made → PairEnds cmp record_of width shown level workers (ended one two) old new lanes lanes' stock now
      pair_ends (Ok v) (Ok w) ends_a ends_b new_is =
          pair_merged shown width workers level at_most cmp record_of old g new lanes lanes' stock now lent rest a b moved enough levels may pair ascend idle_is ten ends_a.0 ends_a.1 ends_b.0 ends_b.1 home_b now_is idle_now jobs batch
          (new_is ∙ ap (λ xs. xs ++ a.hand.made ∷ b.hand.made ∷ []) front_is)
      pair_ends (Ok v) (Err NoFreeBlock) ends_a ends_b new_is = absurd ends_b.failed
      pair_ends (Ok v) (Err (Device number)) ends_a ends_b new_is = (
        pair_stopped shown width level at_most old g new lanes lanes' stock now lent rest a b 0 ends_b.later moved enough levels pair.no_row idle_is ends_a.0.merging ends_b.merging home_b now_is idle_now jobs fits (stopped_new new_is) number,
        failed_b shown width level at_most old g new lanes lanes' stock now lent rest a b 0 ends_b.later moved enough levels pair.no_row idle_is ends_a.0.merging ends_b.merging home_b now_is idle_now jobs fits (stopped_new new_is) number ends_b.failed,
      )
      pair_ends (Err NoFreeBlock) two ends_a ends_b new_is = absurd ends_a.failed
      pair_ends (Err (Device number)) two ends_a ends_b new_is =
          let m = merging_of 1 (table low lent (new_array level) [] aside) b two ends_b in
          let later = later_of 1 (table low lent (new_array level) [] aside) b two ends_b in (
            pair_stopped shown width level at_most old g new lanes lanes' stock now lent rest a b ends_a.later later moved enough levels pair.no_row idle_is ends_a.merging m home_b now_is idle_now jobs fits (stopped_new new_is) number,
            failed_a shown width level at_most old g new lanes lanes' stock now lent rest a b ends_a.later later moved enough levels pair.no_row idle_is ends_a.merging m home_b now_is idle_now jobs fits (stopped_new new_is) number ends_a.failed,
          )
