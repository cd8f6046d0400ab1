-- Two merges side by side, of which one failed.
use Rattle.std.proofs.Common.{◌≡◌, ℕ, ◌+◌, ◌-◌, ◌*◌, ◌<◌, ◌≤◌, ◌^◌, List, [], ◌∷◌, ◌++◌, length, take, drop, sum_by, All, refl, sym, ap, ◌∙◌, subst, arith, length-append, append-nil, take-append-drop, IsPermutation}
use Rattle.std.specs.Prelude.{Result, Ok, Err, ⊤}
use Rattle.std.proofs.lemmas.List.{length-drop, length-take, append_assoc}
use Rattle.std.proofs.lemmas.List.Sums.{sum_by-cons, sum_by-append}
use Rattle.std.proofs.lemmas.List.Sorted.{sum_by-IsPermutation}
use Rattle.ppq_counts.proofs.Levels.{pair-stops}
use Rattle.ppq_fetch.specs.ppq_block.Block.{Block}
use Rattle.ppq_fetch.specs.ppq_outside.Shown.{Shown}
use Rattle.ppq_fetch.specs.ppq_lane.declared.lanes.Lanes.{Lanes}
use Rattle.ppq_fetch.specs.ppq_array.declared.berth.DeviceBlock.{DeviceBlock}
use Rattle.ppq_fetch.specs.ppq_array.declared.store_fault.StoreFault.{StoreFault}
use Rattle.ppq_fetch.specs.ppq_array.declared.store_fault.StoreFault.TheVariants.{NoFreeBlock, Device}
use Rattle.ppq_fetch.specs.ppq_array.Run.{buffers_of}
use Rattle.ppq_fetch.specs.ppq_array.External.{External, size_of}
use Rattle.ppq_fetch.specs.ppq_array.Supply.{Stock}
use Rattle.ppq_fetch.specs.ppq_array.Owner.{slots_shown, new_owner}
use Rattle.ppq_fetch.specs.ppq_array.Kept.{Kept, SameSlots, HasFailed, weight_at, all_writes, all_reads}
use Rattle.ppq_fetch.specs.ppq_array.Holdings.{external_slots, external_buffers}
use Rattle.ppq_fetch.proofs.ppq_array.Noted.{all_left, all_right}
use Rattle.ppq_fetch.specs.Fetching.{blocks_in}
use Rattle.ppq_spill.specs.Body.{job_slots}
use Rattle.ppq_spill.specs.Leveling.{HasLevel, LevelTells, LevelFailed, records_count, held_in, arrays_before, arrays_after}
use Rattle.ppq_spill.specs.Costing.{LevelPays}
use Rattle.ppq_spill.specs.Making.{Table, table, table_slots, Merging}
use Rattle.ppq_spill.specs.Pairing.{PairStopped, MayPair, last_part, part_before, all_but_sixteen, with_rest}
use Rattle.ppq_spill.specs.Went.{Went}
use Rattle.ppq_spill.proofs.Going.{Went-placed, Went-trans}
use Rattle.ppq_spill.proofs.Keeping.{sum_ones, slots_long}
use Rattle.ppq_spill.proofs.Fetches.{slots_counted}
use Rattle.ppq_spill.proofs.Merges.{table_sum}
use Rattle.ppq_spill.proofs.Leveled.{slots_sum}
use Rattle.ppq_spill.proofs.Paired.{new_array}

module _ {S R : Type 0} (shown : S → Shown) (width level : ℕ) (at_most : level ≤ 7) (old g new : List (External S R)) (lanes lanes' : Lanes (DeviceBlock S R) R) (stock now : Stock) (lent rest : List (Block R)) (a b : Table S R) (later_a later_b : ℕ)
    (moved : IsPermutation old g) (enough : 16 ≤ length g) (levels : All (HasLevel level) (drop (length g - 16) g)) (no_row : stock.drawn ≡ [])
    (idle_is : lanes.idle ≡ lent ++ rest) (merging_a : Merging shown width later_a (table (last_part g) rest (new_array level) [] stock) a)
    (merging_b : Merging shown width later_b (table (part_before g) lent (new_array level) [] (new_owner stock.block (2 ^ 32 - 2) 0)) b) (home_b : length b.hand.stock.kept + b.hand.stock.slot_room ≡ 2 ^ 32 - 2)
    (now_is : now ≡ with_rest a.hand.stock (slots_shown shown a.hand.berths) b.hand.stock.kept (slots_shown shown b.hand.berths)) (idle_now : lanes'.idle ≡ a.idle ++ b.idle) (jobs : lanes'.jobs.items ≡ lanes.jobs.items)
    (fits : length (external_slots shown g) ≤ stock.slot_room) (new_is : new ≡ (all_but_sixteen g ++ b.inputs ++ a.inputs) ++ a.hand.made ∷ b.hand.made ∷ []) where
  abbrev front : List (External S R)
  front = all_but_sixteen g

  abbrev high : List (External S R)
  high = last_part g

  abbrev low : List (External S R)
  low = part_before g

  abbrev start_a : Table S R
  start_a = table high rest (new_array level) [] stock

  abbrev start_b : Table S R
  start_b = table low lent (new_array level) [] (new_owner stock.block (2 ^ 32 - 2) 0)

  whole : g ≡ front ++ low ++ high
  whole = sym (append_assoc front low high ∙ ap (λ xs. front ++ xs) (take-append-drop 8 (drop (length g - 16) g)) ∙ take-append-drop (length g - 16) g)

  sum_old : (f : External S R → ℕ) → sum_by f old ≡ sum_by f front + sum_by f low + sum_by f high
  sum_old f = omega (arith, sum_by-IsPermutation f old g moved, ap (sum_by f) whole, sum_by-append f (front ++ low) high, sum_by-append f front low)

  sum_new : (f : External S R → ℕ) → sum_by f new ≡ sum_by f front + sum_by f b.inputs + sum_by f a.inputs + f a.hand.made + f b.hand.made
  sum_new f =
      omega (
        arith,
        ap (sum_by f) new_is,
        sum_by-append f (front ++ b.inputs ++ a.inputs) (a.hand.made ∷ b.hand.made ∷ []),
        sum_by-append f (front ++ b.inputs) a.inputs,
        sum_by-append f front b.inputs,
        sum_by-cons f a.hand.made (b.hand.made ∷ []),
        sum_by-cons f b.hand.made [],
      )

  drawn_is : now.drawn ≡ []
  drawn_is = ap (λ s. s.drawn) now_is ∙ merging_a.rest.drawn ∙ no_row

  before_sum : (f : Shown → ℕ) (j : List Shown) → sum_by f (external_slots shown old ++ j ++ stock.kept ++ now.drawn) ≡ sum_by f (external_slots shown front ++ j) + (sum_by f (table_slots shown start_a) + sum_by f (table_slots shown start_b))
  before_sum f j =
      let g0 : External S R → ℕ = λ x. sum_by f (slots_shown shown x.stored) in
      let e = external_slots shown old in
      omega (
        arith,
        sum_by-append f (e ++ j ++ stock.kept) now.drawn,
        sum_by-append f (e ++ j) stock.kept,
        sum_by-append f e j,
        ap (sum_by f) drawn_is,
        sum_by-append f (external_slots shown front) j,
        slots_sum shown f old,
        slots_sum shown f front,
        slots_sum shown f low,
        slots_sum shown f high,
        sum_old g0,
        table_sum shown f start_a,
        table_sum shown f start_b,
      )

  after_sum : (f : Shown → ℕ) (j : List Shown) → sum_by f (external_slots shown new ++ j ++ now.kept ++ stock.drawn) ≡ sum_by f (external_slots shown front ++ j) + (sum_by f (table_slots shown a) + sum_by f (table_slots shown b))
  after_sum f j =
      let g0 : External S R → ℕ = λ x. sum_by f (slots_shown shown x.stored) in
      let e = external_slots shown new in
      let fa = slots_shown shown a.hand.berths in
      let fb = slots_shown shown b.hand.berths in
      let ka = a.hand.stock.kept in
      let kb = b.hand.stock.kept in
      omega (
        arith,
        sum_by-append f (e ++ j ++ now.kept) stock.drawn,
        sum_by-append f (e ++ j) now.kept,
        sum_by-append f e j,
        ap (sum_by f) no_row,
        sum_by-append f (external_slots shown front) j,
        slots_sum shown f new,
        slots_sum shown f front,
        slots_sum shown f a.inputs,
        slots_sum shown f b.inputs,
        sum_new g0,
        ap (λ s. sum_by f s.kept) now_is,
        sum_by-append f (ka ++ fa ++ kb) fb,
        sum_by-append f (ka ++ fa) kb,
        sum_by-append f ka fa,
        table_sum shown f a,
        table_sum shown f b,
      )

  -- first the one, and then the other
  went : (j : List Shown) → Went ((length merging_a.blocks + later_a) + (length merging_b.blocks + later_b)) ((blocks_in high - blocks_in a.inputs) + (blocks_in low - blocks_in b.inputs))
      (external_slots shown old ++ j ++ stock.kept ++ now.drawn) (external_slots shown new ++ j ++ now.kept ++ stock.drawn)
  went j =
      let base = external_slots shown front ++ j in
      let xs = external_slots shown old ++ j ++ stock.kept ++ now.drawn in
      let ys = base ++ table_slots shown start_b ++ table_slots shown a in
      let zs = external_slots shown new ++ j ++ now.kept ++ stock.drawn in
      Went-trans (length merging_a.blocks + later_a) (blocks_in high - blocks_in a.inputs) (length merging_b.blocks + later_b) (blocks_in low - blocks_in b.inputs) xs ys zs
      (Went-placed (length merging_a.blocks + later_a) (blocks_in high - blocks_in a.inputs) (base ++ table_slots shown start_b) (table_slots shown start_a) (table_slots shown a) xs ys
      (λ f. omega (arith, before_sum f j, sum_by-append f base (table_slots shown start_b)))
      (λ f. omega (arith, sum_by-append f (base ++ table_slots shown start_b) (table_slots shown a)))
      merging_a.went)
      (Went-placed (length merging_b.blocks + later_b) (blocks_in low - blocks_in b.inputs) (base ++ table_slots shown a) (table_slots shown start_b) (table_slots shown b) ys zs
      (λ f. omega (arith, sum_by-append f (base ++ table_slots shown start_b) (table_slots shown a), sum_by-append f base (table_slots shown start_b), sum_by-append f base (table_slots shown a)))
      (λ f. omega (arith, after_sum f j, sum_by-append f base (table_slots shown a)))
      merging_b.went)

  nil_went : Went ((length merging_a.blocks + later_a) + (length merging_b.blocks + later_b)) ((blocks_in high - blocks_in a.inputs) + (blocks_in low - blocks_in b.inputs)) (arrays_before shown old stock now) (arrays_after shown new stock now)
  nil_went =
      let n = (length merging_a.blocks + later_a) + (length merging_b.blocks + later_b) in
      let r = (blocks_in high - blocks_in a.inputs) + (blocks_in low - blocks_in b.inputs) in
      subst (λ (xs : List Shown). Went n r (xs ++ stock.kept ++ now.drawn) (arrays_after shown new stock now)) (append-nil (external_slots shown old))
      (subst (λ (xs : List Shown). Went n r (external_slots shown old ++ [] ++ stock.kept ++ now.drawn) (xs ++ now.kept ++ stock.drawn)) (append-nil (external_slots shown new)) (went []))

  kept : Kept stock now (held_in shown old lanes) (held_in shown new lanes')
  kept =
      let j = job_slots shown lanes.jobs.items in
      let j' = job_slots shown lanes'.jobs.items in
      let same : j ≡ j' = ap (λ js. job_slots shown js) (sym jobs) in
      let buf : External S R → ℕ = λ x. length (buffers_of x.loaded) in
      let stored : External S R → ℕ = λ x. length x.stored in
      let none_a : buf a.hand.made ≡ 0 = ap (λ (x : External S R). length (buffers_of x.loaded)) merging_a.made in
      let none_b : buf b.hand.made ≡ 0 = ap (λ (x : External S R). length (buffers_of x.loaded)) merging_b.made in
      let slots_old = slots_counted shown old in
      let slots_new = slots_counted shown new in
      record {
        slots = subst (λ (x : List Shown). SameSlots (external_slots shown old ++ j ++ stock.kept ++ now.drawn) (external_slots shown new ++ x ++ now.kept ++ stock.drawn)) same (went j).same;
        slot_room = omega (
          arith,
          length-append (external_slots shown new) j',
          length-append (external_slots shown old) j,
          ap length same,
          slots_old,
          slots_new,
          sum_old stored,
          sum_new stored,
          merging_a.room,
          merging_b.room,
          slots_counted shown high,
          slots_counted shown low,
          slots_counted shown a.inputs,
          slots_counted shown b.inputs,
          slots_counted shown g,
          sum_by-IsPermutation stored old g moved,
          fits,
          home_b,
          ap (λ s. s.slot_room) now_is,
          slots_long shown a.hand.berths,
          slots_long shown b.hand.berths,
        );
        buffers = omega (
          arith,
          ap (λ s. s.buffer_room) now_is,
          merging_a.rest.buffers,
          sum_old buf,
          sum_new buf,
          none_a,
          none_b,
          merging_a.buffers,
          merging_b.buffers,
          ap length idle_is,
          length-append lent rest,
          ap length idle_now,
          length-append a.idle b.idle,
          ap length jobs,
        );
        block = ap (λ s. s.block) now_is ∙ merging_a.rest.block;
      }

  -- as many blocks as were made or went on take no more than the records
  few : (o t : Table S R) (later : ℕ) (m : Merging shown width later o t) → o.hand.made ≡ new_array level → (length m.blocks + later) * o.hand.stock.block < records_count o.inputs + o.hand.stock.block
  few o t later m none =
      let block = o.hand.stock.block in
      let empty : length o.hand.made.stored ≡ 0 = ap (λ x. length x.stored) none in
      let size : size_of o.hand.made ≡ 0 = ap size_of none in
      let made : length t.hand.made.stored ≡ length m.blocks = omega (arith, ap (λ x. length x.stored) m.made, length-append o.hand.made.stored m.blocks, empty) in
      subst (λ k. (k + later) * block < records_count o.inputs + block) made (omega (arith, m.few, size))

  counted : {T : Type 0} (number : ℕ) → LevelPays shown {T = T} (Err (Device number)) old new stock now
  counted number records =
      let before = arrays_before shown old stock now in
      let after = arrays_after shown new stock now in
      record {
        pays =
            pair-stops (λ (x : External S R). x.level) size_of (λ (x : External S R). length x.stored) stock.block (all_writes before) (all_writes after) (all_reads before) (all_reads after) (length merging_a.blocks + later_a) (length merging_b.blocks + later_b)
            nil_went.calls.written level old high low front at_most (subst (IsPermutation old) whole moved) high_long low_long high_levels low_levels records records new (few start_a a later_a merging_a refl) (few start_b b later_b merging_b refl) nil_went.calls.stay
            (omega (arith, nil_went.calls.read));
      }
    where
      tail_levels : All (HasLevel level) (low ++ high)
      tail_levels = subst (All (HasLevel level)) (sym (take-append-drop 8 (drop (length g - 16) g))) levels

      high_levels : All (HasLevel level) high
      high_levels = all_right (HasLevel level) low high tail_levels

      low_levels : All (HasLevel level) low
      low_levels = all_left (HasLevel level) low high tail_levels

      high_long : length high ≡ 8
      high_long = omega (arith, length-drop 8 (drop (length g - 16) g), length-drop (length g - 16) g, enough)

      low_long : length low ≡ 8
      low_long = omega (arith, length-take 8 (drop (length g - 16) g), length-drop (length g - 16) g, enough)

  pub pair_stopped : {T : Type 0} (number : ℕ) → PairStopped {T = T} shown (Err (Device number)) old new lanes lanes' stock now
  pair_stopped number = record { kept = kept; tells = nil_went.tells; stay = nil_went.calls.stay; counted = counted number }

  -- the slot that failed is kept by the supply
  failed : (number : ℕ) → 0 < sum_by (weight_at (λ s. s.faults) number) a.hand.stock.kept + sum_by (weight_at (λ s. s.faults) number) b.hand.stock.kept → LevelFailed shown number new now
  failed number there =
      let f = weight_at (λ s. s.faults) number in
      let fa = slots_shown shown a.hand.berths in
      let fb = slots_shown shown b.hand.berths in
      let ka = a.hand.stock.kept in
      let kb = b.hand.stock.kept in
      omega (arith, sum_by-append f (external_slots shown new) now.kept, ap (λ s. sum_by f s.kept) now_is, sum_by-append f (ka ++ fa ++ kb) fb, sum_by-append f (ka ++ fa) kb, sum_by-append f ka fa, there)

  pub failed_a : (number : ℕ) → HasFailed number a.hand.stock.kept → LevelFailed shown number new now
  failed_a number there = failed number (omega (arith, there))

  pub failed_b : (number : ℕ) → HasFailed number b.hand.stock.kept → LevelFailed shown number new now
  failed_b number there = failed number (omega (arith, there))
