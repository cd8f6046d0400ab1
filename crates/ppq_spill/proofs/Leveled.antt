-- What stands after a level was merged, from what its merge tells.
use Rattle.std.proofs.Common.{◌≡◌, ℕ, zero, suc, ◌+◌, ◌-◌, ◌*◌, ◌<◌, ◌≤◌, min, List, [], ◌∷◌, ◌++◌, length, map, drop, sum_by, All, refl, sym, ap, ap₂, ◌∙◌, subst, arith, length-append, append-nil, IsPermutation}
use Rattle.std.specs.Prelude.{count_by, flat_map, Bool}
use Rattle.std.specs.declared.cmp.Ordering.{Ordering}
use Rattle.std.specs.List.{AllByRecursion as Each}
use Rattle.std.proofs.Math.Nat.{add-mul}
use Rattle.std.proofs.lemmas.List.Concat.{flat_map-cons}
use Rattle.std.proofs.lemmas.List.Sums.{sum_by-cons, sum_by-append}
use Rattle.std.proofs.lemmas.List.Sorted.{All-permutation, sum_by-IsPermutation}
use Rattle.std.proofs.lemmas.List.Elements.{All-head, All-tail, All-nil, All-append, All-push, recursion_from_All}
use Rattle.ppq_fetch.specs.ppq_record.Order.{Ascends}
use Rattle.ppq_fetch.specs.ppq_record.Bag.{IsSameBag}
use Rattle.ppq_fetch.specs.ppq_record.Runs.{all_of}
use Rattle.ppq_fetch.proofs.ppq_record.Order.{count_by-append}
use Rattle.ppq_fetch.specs.ppq_block.Block.{Block, all_items}
use Rattle.ppq_fetch.specs.ppq_outside.Shown.{Shown, Tells, AllTell}
use Rattle.ppq_fetch.specs.ppq_lane.declared.lanes.Lanes.{Lanes}
use Rattle.ppq_fetch.specs.ppq_array.declared.berth.DeviceBlock.{DeviceBlock}
use Rattle.ppq_fetch.specs.ppq_array.declared.store_fault.StoreFault.{StoreFault}
use Rattle.ppq_fetch.specs.ppq_array.declared.store_fault.StoreFault.TheVariants.{NoFreeBlock, Device}
use Rattle.ppq_fetch.specs.ppq_array.Run.{run_of, items_of, buffers_of}
use Rattle.ppq_fetch.specs.ppq_array.External.{External, external, size_of, counts, records_in, waiting, blocks_items, IsPacked}
use Rattle.ppq_fetch.specs.ppq_array.Supply.{Stock}
use Rattle.ppq_fetch.specs.ppq_array.Owner.{slots_shown, HasBlock, HasSlot}
use Rattle.ppq_fetch.specs.ppq_array.Kept.{Kept, HasFailed, SameSlots, AreQuiet, weight_at, all_faults}
use Rattle.ppq_fetch.specs.ppq_array.Holdings.{external_slots, external_buffers, RunHasBlock, HasSlots}
use Rattle.ppq_fetch.proofs.ppq_array.Noted.{all_left}
use Rattle.ppq_fetch.specs.Fetching.{state, source_items, waiting_items, IsFitting, blocks_in, one_if_some}
use Rattle.ppq_spill.specs.Body.{job_slots}
use Rattle.ppq_fetch.specs.Taking.{NoneAfter}
use Rattle.ppq_spill.specs.Leveling.{MoreCalls, EightOf, MayLevel, AreOneSize, LevelCalls, LevelMerged, NoneForLevel, LevelTells, LevelFailed, ArraysAscend, held_in, records_count, arrays_before, arrays_after}
use Rattle.ppq_spill.specs.Moves.{DrewSlots, FoundFewSlots}
use Rattle.ppq_spill.specs.Went.{Went, AtLeast}
use Rattle.ppq_spill.specs.Making.{Hand, Table, table, table_slots, total, BetweenBatches, Merging, MergedOn, IsRising, all_records, HasNothing, IsFaultOf, LastMerged, LastFailed, freed}
use Rattle.ppq_spill.proofs.Going.{f_of, Went-placed, WentWriting-refl, went_kept, each_placed}
use Rattle.ppq_spill.proofs.Keeping.{slots_long, sum_ones}
use Rattle.ppq_spill.specs.Untold.{untold}
use Rattle.ppq_spill.proofs.Telling.{tell_part}
use Rattle.ppq_spill.proofs.Blocks.{fewer_than}
use Rattle.ppq_spill.proofs.Fetches.{slots_counted}
use Rattle.ppq_spill.proofs.Merges.{table_sum, fronts_most}
use Rattle.ppq_spill.proofs.Starts.{eight_sum, eight_all, others_all, fronts_buffers, eight_bounded, records_fit}

nothing : {X : Type 0} (xs : List X) → length xs ≡ 0 → xs ≡ []
nothing [] e = refl
nothing (x ∷ xs) e = absurd (omega (arith, e))

right_nil : {X : Type 0} (xs ys : List X) → xs ++ ys ≡ [] → ys ≡ []
right_nil [] ys e = e
right_nil (x ∷ xs) ys e = absurd (cc)

drop_none : (X : Type 0) (n : ℕ) → length (drop {A = X} n []) ≡ 0
drop_none X zero = refl
drop_none X (suc n) = refl

module _ {S R : Type 0} where
  -- an array that was emptied has no record loaded
  none_loaded : (x : External S R) → HasNothing x → length (items_of x.loaded) ≡ 0
  none_loaded x is = ap (λ bs. length (drop x.loaded.taken (all_items bs))) (right_nil x.loaded.spent x.loaded.live is.loaded) ∙ drop_none R x.loaded.taken

  -- no record is left of arrays that were emptied
  pub count_none : (xs : List (External S R)) → All HasNothing xs → Each (λ (a : External S R). a.lifted ≡ []) xs → sum_by size_of xs ≡ 0
  count_none [] a e = refl
  count_none (x ∷ xs) a e =
      let P : External S R → Type 0 = HasNothing in
      let here = All-head P x xs a in
      let items = none_loaded x here in
      let waits : counts (x.lifted ++ x.stored) ≡ 0 = ap₂ (λ (us vs : List (DeviceBlock S R)). counts (us ++ vs)) e.0 here.stored in
      let z : sum_by size_of (x ∷ xs) ≡ 0 = omega (arith, sum_by-cons size_of x xs, items, waits, count_none xs (All-tail P x xs a) e.1) in
      z

-- From a list of arrays to a list with the others, what is left of the 8 and what was made: all that conservation asks for
pub record Placed {S R : Type 0} (shown : S → Shown) (width level : ℕ) (old new others : List (External S R)) (o t : Table S R) (stock now : Stock) : Type 0 where
  pub of : EightOf level old o.inputs others
  pub drew : DrewSlots shown width stock o.hand.stock o.hand.berths
  pub none_made : o.hand.made.stored ≡ []
  pub none_size : size_of o.hand.made ≡ 0
  pub later : ℕ
  pub merging : Merging shown width later o t
  pub back : length t.hand.berths ≤ t.hand.stock.slot_room
  pub slots : (f : Shown → ℕ) → sum_by f (external_slots shown new) ≡ sum_by f (external_slots shown others) + (sum_by f (external_slots shown t.inputs) + sum_by f (slots_shown shown t.hand.made.stored))
  pub buffers : external_buffers new ≡ external_buffers others + external_buffers t.inputs
  pub stock_is : now ≡ freed shown t.hand

module _ {S R : Type 0} (shown : S → Shown) where
  pub slots_sum : (f : Shown → ℕ) (xs : List (External S R)) → sum_by f (external_slots shown xs) ≡ sum_by (λ (a : External S R). sum_by f (slots_shown shown a.stored)) xs
  slots_sum f [] = refl
  slots_sum f (x ∷ xs) =
      ap (sum_by f) (flat_map-cons (λ (a : External S R). slots_shown shown a.stored) x xs)
      ∙ (let e : sum_by f (slots_shown shown x.stored ++ external_slots shown xs) ≡ sum_by (λ (a : External S R). sum_by f (slots_shown shown a.stored)) (x ∷ xs) =
      omega (arith, sum_by-append f (slots_shown shown x.stored) (external_slots shown xs), sum_by-cons (λ (a : External S R). sum_by f (slots_shown shown a.stored)) x xs, slots_sum f xs) in e)

  pub slots_pushed : (f : Shown → ℕ) (xs : List (External S R)) (a : External S R) → sum_by f (external_slots shown (xs ++ a ∷ [])) ≡ sum_by f (external_slots shown xs) + sum_by f (slots_shown shown a.stored)
  slots_pushed f xs a =
      let g : External S R → ℕ = λ a. sum_by f (slots_shown shown a.stored) in
      omega (arith, slots_sum f (xs ++ a ∷ []), slots_sum f xs, sum_by-append g xs (a ∷ []), sum_by-cons g a [])

  pub slots_joined : (f : Shown → ℕ) (xs ys : List (External S R)) → sum_by f (external_slots shown (xs ++ ys)) ≡ sum_by f (external_slots shown xs) + sum_by f (external_slots shown ys)
  slots_joined f xs ys =
      let g : External S R → ℕ = λ a. sum_by f (slots_shown shown a.stored) in
      omega (arith, slots_sum f (xs ++ ys), slots_sum f xs, slots_sum f ys, sum_by-append g xs ys)

  -- what was emptied has no slot and no buffer
  pub emptied_none : (xs : List (External S R)) → All HasNothing xs → (external_slots shown xs ≡ []) × (external_buffers xs ≡ 0)
  emptied_none [] a = (refl, refl)
  emptied_none (x ∷ xs) a =
      let P : External S R → Type 0 = HasNothing in
      let here = All-head P x xs a in
      let rest = emptied_none xs (All-tail P x xs a) in (
        flat_map-cons (λ (a : External S R). slots_shown shown a.stored) x xs ∙ ap₂ (λ (bs : List (DeviceBlock S R)) (ys : List Shown). slots_shown shown bs ++ ys) here.stored rest.0,
        (let e : external_buffers (x ∷ xs) ≡ 0 = omega (arith, sum_by-cons (λ (a : External S R). length (buffers_of a.loaded)) x xs, ap length here.loaded, rest.1) in e),
      )

module _ {S R : Type 0} (shown : S → Shown) (width level : ℕ) (old new others : List (External S R)) (o t : Table S R) (stock now : Stock) (is : Placed shown width level old new others o t stock now) where
  drawn_is : now.drawn ≡ o.hand.stock.drawn
  drawn_is = ap (λ s. s.drawn) is.stock_is ∙ is.merging.rest.drawn

  block_is : now.block ≡ stock.block
  block_is = ap (λ s. s.block) is.stock_is ∙ is.merging.rest.block ∙ ap (λ s. s.block) is.drew.stock

  old_sum : (f : Shown → ℕ) (j : List Shown) → sum_by f (external_slots shown old ++ j ++ stock.kept ++ now.drawn) ≡ sum_by f (external_slots shown others ++ stock.drawn ++ j) + sum_by f (table_slots shown o)
  old_sum f j =
      let e = external_slots shown old in
      let g : External S R → ℕ = λ a. sum_by f (slots_shown shown a.stored) in
      let ot = external_slots shown others in
      omega (
        arith,
        sum_by-append f (e ++ j ++ stock.kept) now.drawn,
        sum_by-append f (e ++ j) stock.kept,
        sum_by-append f e j,
        sum_by-append f (ot ++ stock.drawn) j,
        sum_by-append f ot stock.drawn,
        ap (sum_by f) drawn_is,
        is.drew.moved f,
        sum_by-append f stock.kept o.hand.stock.drawn,
        sum_by-append f (slots_shown shown o.hand.berths ++ o.hand.stock.kept) stock.drawn,
        sum_by-append f (slots_shown shown o.hand.berths) o.hand.stock.kept,
        table_sum shown f o,
        ap (λ bs. sum_by f (slots_shown shown bs)) is.none_made,
        eight_sum level old o.inputs others is.of g,
        slots_sum shown f old,
        slots_sum shown f others,
        slots_sum shown f o.inputs,
      )

  new_sum : (f : Shown → ℕ) (j : List Shown) → sum_by f (external_slots shown new ++ j ++ now.kept ++ stock.drawn) ≡ sum_by f (external_slots shown others ++ stock.drawn ++ j) + sum_by f (table_slots shown t)
  new_sum f j =
      let e = external_slots shown new in
      let ot = external_slots shown others in
      let kept : now.kept ≡ t.hand.stock.kept ++ slots_shown shown t.hand.berths = ap (λ s. s.kept) is.stock_is in
      omega (
        arith,
        sum_by-append f (e ++ j ++ now.kept) stock.drawn,
        sum_by-append f (e ++ j) now.kept,
        sum_by-append f e j,
        sum_by-append f (ot ++ stock.drawn) j,
        sum_by-append f ot stock.drawn,
        ap (sum_by f) kept,
        sum_by-append f t.hand.stock.kept (slots_shown shown t.hand.berths),
        table_sum shown f t,
        is.slots f,
      )

  -- the slots that a merge begins with are among all
  pub before_told : sum_by untold (table_slots shown o) ≤ sum_by untold (arrays_before shown old stock now)
  before_told =
      let e = old_sum untold [] in
      let same : sum_by untold (external_slots shown old ++ [] ++ stock.kept ++ now.drawn) ≡ sum_by untold (arrays_before shown old stock now) = ap (λ (xs : List Shown). sum_by untold (xs ++ stock.kept ++ now.drawn)) (append-nil (external_slots shown old)) in
      omega (arith, e, same)

  -- all slots, with those of jobs
  pub level_went : (j : List Shown) → Went (length is.merging.blocks + is.later) (blocks_in o.inputs - blocks_in t.inputs) (external_slots shown old ++ j ++ stock.kept ++ now.drawn) (external_slots shown new ++ j ++ now.kept ++ stock.drawn)
  level_went j =
      Went-placed (length is.merging.blocks + is.later) (blocks_in o.inputs - blocks_in t.inputs) (external_slots shown others ++ stock.drawn ++ j) (table_slots shown o) (table_slots shown t)
      (external_slots shown old ++ j ++ stock.kept ++ now.drawn) (external_slots shown new ++ j ++ now.kept ++ stock.drawn) (λ f. old_sum f j) (λ f. new_sum f j) is.merging.went

  nil_went : Went (length is.merging.blocks + is.later) (blocks_in o.inputs - blocks_in t.inputs) (arrays_before shown old stock now) (arrays_after shown new stock now)
  nil_went =
      subst (λ (xs : List Shown). Went (length is.merging.blocks + is.later) (blocks_in o.inputs - blocks_in t.inputs) (xs ++ stock.kept ++ now.drawn) (arrays_after shown new stock now)) (append-nil (external_slots shown old))
      (subst (λ (xs : List Shown). Went (length is.merging.blocks + is.later) (blocks_in o.inputs - blocks_in t.inputs) (external_slots shown old ++ [] ++ stock.kept ++ now.drawn) (xs ++ now.kept ++ stock.drawn)) (append-nil (external_slots shown new)) (level_went []))

  -- no call failed, of all slots if of those that the merge called
  pub level_quiet : AreQuiet (table_slots shown o) (table_slots shown t) → AreQuiet (arrays_before shown old stock now) (arrays_after shown new stock now)
  level_quiet quiet =
      let before : sum_by f_of (external_slots shown old ++ [] ++ stock.kept ++ now.drawn) ≡ all_faults (arrays_before shown old stock now) = ap (λ (xs : List Shown). sum_by f_of (xs ++ stock.kept ++ now.drawn)) (append-nil (external_slots shown old)) in
      let after : sum_by f_of (external_slots shown new ++ [] ++ now.kept ++ stock.drawn) ≡ all_faults (arrays_after shown new stock now) = ap (λ (xs : List Shown). sum_by f_of (xs ++ now.kept ++ stock.drawn)) (append-nil (external_slots shown new)) in
      let e : all_faults (arrays_after shown new stock now) ≡ all_faults (arrays_before shown old stock now) = omega (arith, old_sum f_of [], new_sum f_of [], before, after, quiet) in
      e

  -- of all slots as many were written, at least
  pub level_each : (n : ℕ) → AtLeast n (table_slots shown o) (table_slots shown t) → AtLeast n (arrays_before shown old stock now) (arrays_after shown new stock now)
  level_each n each =
      let all = each_placed n (external_slots shown others ++ stock.drawn ++ []) (table_slots shown o) (table_slots shown t) (external_slots shown old ++ [] ++ stock.kept ++ now.drawn) (external_slots shown new ++ [] ++ now.kept ++ stock.drawn)
      (λ f. old_sum f []) (λ f. new_sum f []) each in
      subst (λ (xs : List Shown). AtLeast n (xs ++ stock.kept ++ now.drawn) (arrays_after shown new stock now)) (append-nil (external_slots shown old))
      (subst (λ (xs : List Shown). AtLeast n (external_slots shown old ++ [] ++ stock.kept ++ now.drawn) (xs ++ now.kept ++ stock.drawn)) (append-nil (external_slots shown new)) all)

  -- the supply can take back as many more as are held more
  pub level_room : length (external_slots shown new) + stock.slot_room ≡ length (external_slots shown old) + now.slot_room
  level_room =
      let ones : Shown → ℕ = λ _. 1 in
      let long : External S R → ℕ = λ a. length a.stored in
      let drew : o.hand.stock.slot_room ≡ stock.slot_room + length o.hand.berths = ap (λ s. s.slot_room) is.drew.stock in
      let back : now.slot_room ≡ t.hand.stock.slot_room - length t.hand.berths = ap (λ s. s.slot_room) is.stock_is in
      let new_long : length (external_slots shown new) ≡ length (external_slots shown others) + (length (external_slots shown t.inputs) + length t.hand.made.stored) =
      omega (arith, is.slots ones, sum_ones (external_slots shown new), sum_ones (external_slots shown others), sum_ones (external_slots shown t.inputs), sum_ones (slots_shown shown t.hand.made.stored), slots_long shown t.hand.made.stored) in
      let old_long : length (external_slots shown old) ≡ length (external_slots shown others) + length (external_slots shown o.inputs) =
      omega (arith, slots_counted shown old, slots_counted shown others, slots_counted shown o.inputs, eight_sum level old o.inputs others is.of long) in
      let none : length o.hand.made.stored ≡ 0 = ap length is.none_made in
      omega (arith, new_long, old_long, drew, back, is.merging.room, is.back, none)

  pub level_buffer_room : now.buffer_room ≡ stock.buffer_room
  level_buffer_room = ap (λ s. s.buffer_room) is.stock_is ∙ is.merging.rest.buffers ∙ ap (λ s. s.buffer_room) is.drew.stock

  pub level_kept : (lanes lanes' : Lanes (DeviceBlock S R) R) → lanes.idle ≡ o.idle → lanes'.idle ≡ t.idle → lanes'.jobs.items ≡ lanes.jobs.items → Kept stock now (held_in shown old lanes) (held_in shown new lanes')
  level_kept lanes lanes' idle idle' jobs =
      let j = job_slots shown lanes.jobs.items in
      let j' = job_slots shown lanes'.jobs.items in
      let same : j ≡ j' = ap (λ js. job_slots shown js) (sym jobs) in
      let room : now.buffer_room ≡ stock.buffer_room = ap (λ s. s.buffer_room) is.stock_is ∙ is.merging.rest.buffers ∙ ap (λ s. s.buffer_room) is.drew.stock in
      record {
        slots = subst (λ (x : List Shown). SameSlots (external_slots shown old ++ j ++ stock.kept ++ now.drawn) (external_slots shown new ++ x ++ now.kept ++ stock.drawn)) same (level_went j).same;
        slot_room = omega (arith, level_room, length-append (external_slots shown new) j', length-append (external_slots shown old) j, ap length same);
        buffers = omega (
          arith,
          room,
          is.buffers,
          eight_sum level old o.inputs others is.of (λ (a : External S R). length (buffers_of a.loaded)),
          is.merging.buffers,
          ap length idle,
          ap length idle',
          ap length jobs,
        );
        block = block_is;
      }

  pub level_tells : LevelTells shown old new stock now
  level_tells = nil_went.tells

  blocks_long : length t.hand.made.stored ≡ length is.merging.blocks
  blocks_long = omega (arith, ap (λ a. length a.stored) is.merging.made, length-append o.hand.made.stored is.merging.blocks, ap length is.none_made)

  -- no more blocks were written than were made or went on, and they are no more than the records of the 8 take
  pub level_writes : MoreCalls (length is.merging.blocks + is.later) (blocks_in o.inputs) (arrays_before shown old stock now) (arrays_after shown new stock now)
  level_writes = record { written = nil_went.calls.written; stay = nil_went.calls.stay; read = omega (arith, nil_went.calls.read) }

  pub level_few : (length is.merging.blocks + is.later) * stock.block < records_count o.inputs + stock.block
  level_few =
      let block : o.hand.stock.block ≡ stock.block = ap (λ s. s.block) is.drew.stock in
      subst (λ b. (length is.merging.blocks + is.later) * b < records_count o.inputs + b) block (subst (λ k. (k + is.later) * o.hand.stock.block < records_count o.inputs + o.hand.stock.block) blocks_long (omega (arith, is.merging.few, is.none_size)))

  pub level_calls : LevelCalls shown level old new stock now
  level_calls =
      record {
        inputs = o.inputs;
        others = others;
        of = is.of;
        blocks = length is.merging.blocks + is.later;
        few = level_few;
        calls = level_writes;
      }

  start_block : o.hand.stock.block ≡ stock.block
  start_block = ap (λ s. s.block) is.drew.stock

  -- all is of one block size again
  pub level_size :
      (lanes lanes' : Lanes (DeviceBlock S R) R) → AreOneSize shown width old lanes stock → lanes'.idle ≡ t.idle → All (HasSlots shown (stock.block * width)) new → All (λ (a : External S R). RunHasBlock stock.block a.loaded) new
      → AreOneSize shown width new lanes' now
  level_size lanes lanes' size idle external loaded =
      record {
        some = subst (λ b. 1 ≤ b) (sym block_is) size.some;
        small = subst (λ b. b ≤ 65536) (sym block_is) size.small;
        idle = subst (All (HasBlock now.block)) (sym idle) (subst (λ b. All (HasBlock b) t.idle) (start_block ∙ sym block_is) is.merging.same_idle);
        external = subst (λ b. All (HasSlots shown (b * width)) new) (sym block_is) external;
        loaded = subst (λ b. All (λ (a : External S R). RunHasBlock b a.loaded) new) (sym block_is) loaded;
        takes_back = omega (arith, level_room, size.takes_back);
      }

  -- what was made has the size of a block, and nothing loaded
  pub made_size : HasSlots shown (stock.block * width) t.hand.made
  made_size = subst (λ b. All (HasSlot shown (b * width)) t.hand.made.stored) start_block (all_left (HasSlot shown (o.hand.stock.block * width)) t.hand.made.stored t.hand.berths is.merging.sizes)

  -- 8 arrays became one
  module _ (lanes lanes' : Lanes (DeviceBlock S R) R) (workers : ℕ) (may : MayLevel shown width workers old lanes stock) (ready : BetweenBatches shown width workers t) (emptied : All HasNothing t.inputs) (same : total t ≡ total o)
      (idle : lanes.idle ≡ o.idle) (idle' : lanes'.idle ≡ t.idle) (jobs : lanes'.jobs.items ≡ lanes.jobs.items) (batch : length lanes'.batch.items ≡ length lanes.batch.items) (new_is : new ≡ others ++ t.hand.made ∷ []) where
    abbrev pushed : (P : External S R → Type 0) → All P others → P t.hand.made → All P new
    pushed P a p = subst (All P) (sym new_is) (All-push P others t.hand.made a p)

    abbrev kept_others : (P : External S R → Type 0) → All P old → All P others
    kept_others P a = others_all level old o.inputs others is.of P a

    none_left : (external_slots shown t.inputs ≡ []) × (external_buffers t.inputs ≡ 0)
    none_left = emptied_none shown t.inputs emptied

    made_loaded : t.hand.made.loaded ≡ run_of [] 0 []
    made_loaded = ap (λ a. a.loaded) ready.shape

    sum_new : (f : External S R → ℕ) → sum_by f new ≡ sum_by f others + f t.hand.made
    sum_new f = ap (sum_by f) new_is ∙ (let e : sum_by f (others ++ t.hand.made ∷ []) ≡ sum_by f others + f t.hand.made = omega (arith, sum_by-append f others (t.hand.made ∷ []), sum_by-cons f t.hand.made []) in e)

    sum_old : (f : External S R → ℕ) → sum_by f old ≡ sum_by f others + sum_by f o.inputs
    sum_old f = eight_sum level old o.inputs others is.of f

    pub size_made : size_of t.hand.made ≡ records_count o.inputs
    size_made = omega (arith, same, is.none_size, count_none t.inputs emptied ready.may.none_lifted)

    level_buffers : external_buffers new ≡ external_buffers others
    level_buffers = omega (arith, is.buffers, none_left.1)

    pub level_idle : length lanes.idle ≤ length lanes'.idle
    level_idle = omega (arith, is.merging.buffers, none_left.1, ap length idle, ap length idle')

    pub level_again : MayLevel shown width workers new lanes' now
    level_again =
        let size = may.size in
        let buf : External S R → ℕ = λ a. length (buffers_of a.loaded) in
        let front : External S R → ℕ = λ a. one_if_some (items_of a.loaded) in
        let long : External S R → ℕ = λ a. length a.stored in
        let b = stock.block in
        let none_front : front t.hand.made ≡ 0 = ap (λ run. one_if_some (items_of run)) made_loaded in
        let tight : length t.hand.made.stored * b < size_of t.hand.made + b = subst (λ k. length t.hand.made.stored * k < size_of t.hand.made + k) (is.merging.rest.block ∙ start_block) ready.tight in
        let most = records_fit shown width workers level b o.inputs (eight_all level old o.inputs others is.of (λ (a : External S R). a.lifted ≡ []) may.lifted) (eight_all level old o.inputs others is.of (λ (a : External S R). RunHasBlock b a.loaded) size.loaded)
        (eight_all level old o.inputs others is.of (λ (a : External S R). All IsFitting (buffers_of a.loaded)) may.fitting) (eight_all level old o.inputs others is.of (λ (a : External S R). IsPacked b a.stored) may.packed) in
        let k = external_buffers o.inputs + blocks_in o.inputs in
        let few : length t.hand.made.stored < k + 1 = fewer_than (length t.hand.made.stored) (k + 1) b (let e : (k + 1) * b ≡ k * b + b = (add-mul k 1 b ∙ (let z : k * b + 1 * b ≡ k * b + b = omega arith in z)) in omega (arith, e, tight, size_made, most)) in
        record {
          size = level_size lanes lanes' size idle' (pushed (HasSlots shown (b * width)) (kept_others (HasSlots shown (b * width)) size.external) made_size)
              (pushed (λ (a : External S R). RunHasBlock b a.loaded) (kept_others (λ (a : External S R). RunHasBlock b a.loaded) size.loaded) (subst (λ run. RunHasBlock b run) (sym made_loaded) (All-nil (HasBlock {R = R} b))));
          lifted = pushed (λ (a : External S R). a.lifted ≡ []) (kept_others (λ (a : External S R). a.lifted ≡ []) may.lifted) (ap (λ a. a.lifted) ready.shape);
          spent = pushed (λ (a : External S R). a.loaded.spent ≡ []) (kept_others (λ (a : External S R). a.loaded.spent ≡ []) may.spent) (ap (λ run. run.spent) made_loaded);
          fitting = pushed (λ (a : External S R). All IsFitting (buffers_of a.loaded)) (kept_others (λ (a : External S R). All IsFitting (buffers_of a.loaded)) may.fitting) (subst (λ run. All IsFitting (buffers_of run)) (sym made_loaded) (All-nil (IsFitting {R = R})));
          packed = pushed (λ (a : External S R). IsPacked now.block a.stored) (subst (λ k. All (λ (a : External S R). IsPacked k a.stored) others) (sym block_is) (kept_others (λ (a : External S R). IsPacked b a.stored) may.packed)) (subst (λ k. IsPacked k t.hand.made.stored) (is.merging.rest.block ∙ start_block ∙ sym block_is) ready.packed);
          buffers = omega (arith, may.buffers, is.merging.buffers, none_left.1, ap length idle, ap length idle');
          no_job = jobs ∙ may.no_job;
          batch = batch ∙ may.batch ∙ ap (λ k. workers * k) (sym block_is);
          bounded = omega (arith, may.bounded, level_buffers, sum_old buf, sum_old front, sum_new front, none_front, fronts_buffers o.inputs);
          few_buffers = omega (arith, may.few_buffers, level_buffers, sum_old buf, is.merging.buffers, none_left.1, ap length idle, ap length idle');
          few_blocks = omega (arith, may.few_blocks, level_buffers, sum_old buf, sum_old long, sum_new long, few);
          few_records = omega (arith, may.few_records, sum_old size_of, sum_new size_of, size_made);
        }

-- the records of arrays: those that are loaded and those that wait
module _ {S R : Type 0} (record_of : List ℕ → R) (width : ℕ) (shown : S → Shown) where
  abbrev sources : List (External S R) → List R
  sources xs = all_of (map (λ (a : External S R). items_of a.loaded) xs) ++ waiting_items record_of width shown xs

  -- are those of the arrays, in another order
  pub sources_bag : (xs : List (External S R)) → IsSameBag (sources xs) (flat_map (records_in record_of width shown) xs)
  sources_bag [] p = refl
  sources_bag (x ∷ xs) p =
      let loaded = all_of (map (λ (a : External S R). items_of a.loaded) xs) in
      let w : External S R → List R = λ a. blocks_items record_of width shown (waiting a) in
      let waits : waiting_items record_of width shown (x ∷ xs) ≡ w x ++ waiting_items record_of width shown xs = flat_map-cons w x xs in
      let whole : flat_map (records_in record_of width shown) (x ∷ xs) ≡ (items_of x.loaded ++ w x) ++ flat_map (records_in record_of width shown) xs = flat_map-cons (records_in record_of width shown) x xs in
      let c = λ (ys zs : List R). count_append p ys zs in
      let e : count_by p (sources (x ∷ xs)) ≡ count_by p (flat_map (records_in record_of width shown) (x ∷ xs)) =
      omega (
        arith,
        c (items_of x.loaded ++ loaded) (waiting_items record_of width shown (x ∷ xs)),
        c (items_of x.loaded) loaded,
        ap (count_by p) waits,
        c (w x) (waiting_items record_of width shown xs),
        ap (count_by p) whole,
        c (items_of x.loaded ++ w x) (flat_map (records_in record_of width shown) xs),
        c (items_of x.loaded) (w x),
        sources_bag xs p,
        c loaded (waiting_items record_of width shown xs),
      ) in
      e
    where
      count_append : (p : R → Bool) (ys zs : List R) → count_by p (ys ++ zs) ≡ count_by p ys + count_by p zs
      count_append p ys zs = count_by-append p ys zs

  pub sources_none : (xs : List (External S R)) → All HasNothing xs → Each (λ (a : External S R). a.lifted ≡ []) xs → sources xs ≡ []
  sources_none xs a e = nothing (sources xs) (let z : length (sources xs) ≡ 0 = omega (arith, length-append (all_of (map (λ (a : External S R). items_of a.loaded) xs)) (waiting_items record_of width shown xs), loaded_none xs a, waiting_none xs a e) in z)
    where
      loaded_none : (xs : List (External S R)) → All HasNothing xs → length (all_of (map (λ (a : External S R). items_of a.loaded) xs)) ≡ 0
      loaded_none [] a = refl
      loaded_none (x ∷ xs) a =
          let P : External S R → Type 0 = HasNothing in
          let here = All-head P x xs a in
          let items = none_loaded x here in
          let z : length (items_of x.loaded ++ all_of (map (λ (a : External S R). items_of a.loaded) xs)) ≡ 0 = omega (arith, length-append (items_of x.loaded) (all_of (map (λ (a : External S R). items_of a.loaded) xs)), items, loaded_none xs (All-tail P x xs a)) in
          z

      waiting_none : (xs : List (External S R)) → All HasNothing xs → Each (λ (a : External S R). a.lifted ≡ []) xs → length (waiting_items record_of width shown xs) ≡ 0
      waiting_none [] a e = refl
      waiting_none (x ∷ xs) a e =
          let P : External S R → Type 0 = HasNothing in
          let here = All-head P x xs a in
          let w : External S R → List R = λ a. blocks_items record_of width shown (waiting a) in
          let waits : length (w x) ≡ 0 = ap₂ (λ (us vs : List (DeviceBlock S R)). length (blocks_items record_of width shown (us ++ vs))) e.0 here.stored in
          let z : length (waiting_items record_of width shown (x ∷ xs)) ≡ 0 = omega (arith, ap length (flat_map-cons w x xs), length-append (w x) (waiting_items record_of width shown xs), waits, waiting_none xs (All-tail P x xs a) e.1) in
          z

-- 8 arrays became one
pub level_merged :
    {S R : Type 0} (cmp : R → R → Ordering) (record_of : List ℕ → R) (width workers level next : ℕ) (shown : S → Shown) (old new others : List (External S R)) (o t : Table S R) (lanes : Lanes (DeviceBlock S R) R) (stock now : Stock)
    → Placed shown width level old new others o t stock now → MayLevel shown width workers old lanes stock → MergedOn cmp record_of width workers shown o t → All HasNothing t.inputs
    → o.hand.made ≡ external next (run_of [] 0 []) [] [] → next ≡ min (level + 1) 7 → new ≡ others ++ t.hand.made ∷ [] → ArraysAscend cmp record_of width shown old stock
    → LevelMerged cmp record_of width shown level old new stock now
level_merged {S} {R} cmp record_of width workers level next shown old new others o t lanes stock now is may on emptied start next_is new_is ascend =
    let b = stock.block in
    let recs : Table S R → List R = λ t. records_in record_of width shown t.hand.made in
    let block : t.hand.stock.block ≡ b = is.merging.rest.block ∙ ap (λ s. s.block) is.drew.stock in
    let none : recs o ≡ [] = ap (records_in record_of width shown) start in
    let tells : AllTell (arrays_before shown old stock now) → AllTell (table_slots shown o) = λ t'.
    tell_part (arrays_before shown old stock now) (table_slots shown o) (before_told shown width level old new others o t stock now is) t' in
    let rising : AllTell (arrays_before shown old stock now) → IsRising cmp record_of width shown o = λ t'.
    let here : AllTell (external_slots shown old ++ stock.kept) = all_left Tells (external_slots shown old ++ stock.kept) now.drawn t' in
    let up = eight_all level old o.inputs others is.of (λ (a : External S R). Ascends cmp (records_in record_of width shown a)) (ascend here) in
    record {
      inputs = record { internal = tt; external = recursion_from_All (λ (a : External S R). Ascends cmp (records_in record_of width shown a)) o.inputs up };
      made = subst (Ascends cmp) (sym none) tt;
      after = subst (λ xs. NoneAfter cmp xs (source_items record_of width shown (state [] o.inputs o.idle o.hand.stock))) (sym none) tt;
    } in
    record {
      inputs = o.inputs;
      others = others;
      of = is.of;
      made = t.hand.made;
      quiet = level_quiet shown width level old new others o t stock now is on.quiet;
      arrays = new_is;
      level_is = ap (λ a. a.level) on.merging.made ∙ ap (λ a. a.level) start ∙ next_is;
      loaded = ap (λ a. a.loaded) on.ready.shape;
      lifted = ap (λ a. a.lifted) on.ready.shape;
      size = size_is;
      buffers = level_buffer_room shown width level old new others o t stock now is;
      ascends = λ t'. (on.rise (tells t') (rising t')).made;
      records = λ t' p.
          let bag = on.records (tells t') (rising t') p in
          let before : count_by p (all_records record_of width shown o) ≡ count_by p (sources record_of width shown o.inputs) = ap (λ xs. count_by p (xs ++ sources record_of width shown o.inputs)) none in
          let after : count_by p (all_records record_of width shown t) ≡ count_by p (recs t) = ap (λ xs. count_by p (recs t ++ xs)) (sources_none record_of width shown t.inputs emptied on.ready.may.none_lifted) ∙ ap (count_by p) (append-nil (recs t)) in
          sym after ∙ sym bag ∙ before ∙ sources_bag record_of width shown o.inputs p;
      blocks = subst (λ k. length t.hand.made.stored * k < size_of t.hand.made + k) block on.ready.tight;
      packed = subst (λ k. IsPacked k t.hand.made.stored) block on.ready.packed;
      written = subst (All (λ (b : DeviceBlock S R). 1 ≤ (shown b.slot).writes)) (sym stored) on.merging.written;
    }
  where
    stored : t.hand.made.stored ≡ on.merging.blocks
    stored = ap (λ a. a.stored) on.merging.made ∙ ap (λ (bs : List (DeviceBlock S R)). bs ++ on.merging.blocks) (ap (λ a. a.stored) start)

    size_is : size_of t.hand.made ≡ records_count o.inputs
    size_is = omega (arith, on.same, is.none_size, count_none t.inputs emptied on.ready.may.none_lifted)

module _ {S R : Type 0} (shown : S → Shown) (width workers level next : ℕ) (old inputs others : List (External S R)) (lanes : Lanes (DeviceBlock S R) R) (stock stock1 : Stock) (berths : List (DeviceBlock S R))
    (of : EightOf level old inputs others) (drew : DrewSlots shown width stock stock1 berths) (ready : BetweenBatches shown width workers (table inputs lanes.idle (external next (run_of [] 0 []) [] []) berths stock1)) where
  abbrev pub start : Table S R
  start = table inputs lanes.idle (external next (run_of [] 0 []) [] []) berths stock1

  back_fits : (later : ℕ) (t : Table S R) → Merging shown width later start t → length t.hand.berths ≤ t.hand.stock.slot_room
  back_fits later t merging = omega (arith, merging.room, ready.room)

  loaded_none : (later : ℕ) (t : Table S R) → Merging shown width later start t → t.hand.made.loaded ≡ run_of [] 0 []
  loaded_none later t merging = ap (λ a. a.loaded) merging.made

  buffers_none : (later : ℕ) (t : Table S R) → Merging shown width later start t → length (buffers_of t.hand.made.loaded) ≡ 0
  buffers_none later t merging = ap (λ run. length (buffers_of run)) (loaded_none later t merging)

  -- after all was merged
  pub placed_merged :
      (cmp : R → R → Ordering) (record_of : List ℕ → R) (new : List (External S R)) (idle : List (Block R)) (now : Stock) (last : LastMerged cmp record_of width workers shown others start new idle now)
      → Placed shown width level old new others start last.end stock now
  placed_merged cmp record_of new idle now last =
      let t = last.end in
      let none = emptied_none shown t.inputs last.emptied in
      record {
        of = of;
        drew = drew;
        none_made = refl;
        none_size = omega arith;
        later = 0;
        merging = last.merged.merging;
        back = back_fits 0 t last.merged.merging;
        slots = λ f. (let e : sum_by f (external_slots shown t.inputs) ≡ 0 = ap (sum_by f) none.0 in omega (arith, ap (λ xs. sum_by f (external_slots shown xs)) last.arrays_are, slots_pushed shown f others t.hand.made, e));
        buffers = omega (
          arith,
          ap external_buffers last.arrays_are,
          sum_by-append (λ (a : External S R). length (buffers_of a.loaded)) others (t.hand.made ∷ []),
          sum_by-cons (λ (a : External S R). length (buffers_of a.loaded)) t.hand.made [],
          buffers_none 0 t last.merged.merging,
          none.1,
        );
        stock_is = last.stock_is;
      }

  -- after a read or write failed
  pub placed_failed :
      (new : List (External S R)) (idle : List (Block R)) (now : Stock) (fault : StoreFault) (last : LastFailed shown width others start new idle now fault)
      → Placed shown width level old new others start last.end stock now
  placed_failed new idle now fault last =
      let t = last.end in
      record {
        of = of;
        drew = drew;
        none_made = refl;
        none_size = omega arith;
        later = last.failed.later;
        merging = last.failed.merging;
        back = back_fits last.failed.later t last.failed.merging;
        slots = λ f. omega (arith, ap (λ xs. sum_by f (external_slots shown xs)) last.arrays_are, slots_pushed shown f (others ++ t.inputs) t.hand.made, slots_joined shown f others t.inputs);
        buffers = omega (
          arith,
          ap external_buffers last.arrays_are,
          sum_by-append (λ (a : External S R). length (buffers_of a.loaded)) (others ++ t.inputs) (t.hand.made ∷ []),
          sum_by-append (λ (a : External S R). length (buffers_of a.loaded)) others t.inputs,
          sum_by-cons (λ (a : External S R). length (buffers_of a.loaded)) t.hand.made [],
          buffers_none last.failed.later t last.failed.merging,
        );
        stock_is = last.stock_is;
      }

  pub failed_size :
      (new : List (External S R)) (now : Stock) (lanes' : Lanes (DeviceBlock S R) R) (fault : StoreFault) (size : AreOneSize shown width old lanes stock) (last : LastFailed shown width others start new lanes'.idle now fault)
      → AreOneSize shown width new lanes' now
  failed_size new now lanes' fault size last =
      let t = last.end in
      let b = stock.block in
      let block1 : stock1.block ≡ b = ap (λ s. s.block) drew.stock in
      let is = placed_failed new lanes'.idle now fault last in
      let P : External S R → Type 0 = HasSlots shown (b * width) in
      let Q : External S R → Type 0 = λ a. RunHasBlock b a.loaded in
      let pm = made_size shown width level old new others start t stock now is in
      let qm : RunHasBlock b t.hand.made.loaded = subst (λ run. RunHasBlock b run) (sym (loaded_none last.failed.later t last.failed.merging)) (All-nil (HasBlock {R = R} b)) in
      let pi = subst (λ k. All (HasSlots shown (k * width)) t.inputs) block1 last.failed.merging.same_external in
      let qi = subst (λ k. All (λ (a : External S R). RunHasBlock k a.loaded) t.inputs) block1 last.failed.merging.same_loaded in
      level_size shown width level old new others start t stock now is lanes lanes' size last.idle_is
      (subst (All P) (sym last.arrays_are) (All-push P (others ++ t.inputs) t.hand.made (All-append P others t.inputs (others_all level old inputs others of P size.external) pi) pm))
      (subst (All Q) (sym last.arrays_are) (All-push Q (others ++ t.inputs) t.hand.made (All-append Q others t.inputs (others_all level old inputs others of Q size.loaded) qi) qm))

-- the slot that failed is kept by the supply
pub level_failed : {S R : Type 0} (shown : S → Shown) (new : List (External S R)) (h : Hand S R) (now : Stock) (fault : StoreFault) (number : ℕ) → now ≡ freed shown h → IsFaultOf h.stock fault → fault ≡ Device number → LevelFailed shown number new now
level_failed shown new h now NoFreeBlock number is failed e = absurd failed
level_failed shown new h now (Device n) number is failed e =
    let f = weight_at (λ s. s.faults) number in
    let kept : now.kept ≡ h.stock.kept ++ slots_shown shown h.berths = ap (λ s. s.kept) is in
    let same : n ≡ number = cc in
    let there : HasFailed number h.stock.kept = subst (λ k. HasFailed k h.stock.kept) same failed in
    omega (arith, sum_by-append f (external_slots shown new) now.kept, ap (sum_by f) kept, sum_by-append f h.stock.kept (slots_shown shown h.berths), there)

-- too few slots were had
module _ {S R : Type 0} (shown : S → Shown) (width workers level : ℕ) (old new inputs others : List (External S R)) (lanes : Lanes (DeviceBlock S R) R) (stock now : Stock)
    (of : EightOf level old inputs others) (may : MayLevel shown width workers old lanes stock) (found : FoundFewSlots (external_buffers inputs) stock now) (new_is : new ≡ others ++ inputs) where
  moved_is : IsPermutation old new
  moved_is = subst (IsPermutation old) (sym new_is) of.parted

  all_new : (P : External S R → Type 0) → All P old → All P new
  all_new P a = All-permutation P old new moved_is a

  sum_same : (f : External S R → ℕ) → sum_by f new ≡ sum_by f old
  sum_same f = sum_by-IsPermutation f old new moved_is

  pub none_for_level : NoneForLevel shown level workers old new lanes lanes stock now
  none_for_level =
      let ones : Shown → ℕ = λ _. 1 in
      record {
        inputs = inputs;
        others = others;
        of = of;
        arrays = new_is;
        untouched = found.moved;
        dry = found.dry;
        unsure = omega (arith, found.few, found.still);
        still = found.still;
        still_few = found.few;
        sure = (let e : length now.kept + length stock.drawn ≡ length stock.kept + length now.drawn = omega (arith, found.moved ones, sum_ones (stock.kept ++ now.drawn), sum_ones (now.kept ++ stock.drawn), length-append stock.kept now.drawn, length-append now.kept stock.drawn) in e);
        bounded = omega (arith, eight_bounded shown width workers level old inputs others of may.bounded, fronts_most inputs, of.eight);
        idle = refl;
        buffers = ap (λ s. s.buffer_room) found.stock;
      }

  went_none : (j : List Shown) → Went 0 0 (external_slots shown old ++ j ++ stock.kept ++ now.drawn) (external_slots shown new ++ j ++ now.kept ++ stock.drawn)
  went_none j =
      (went_kept (external_slots shown old) j stock.kept now.drawn [] (external_slots shown new) j now.kept stock.drawn [] now.kept found.moved
      (λ f. (let z : sum_by f [] ≡ 0 = refl in omega (arith, z, slots_sum shown f old, slots_sum shown f new, sum_same (λ a. sum_by f (slots_shown shown a.stored))))) 0 (WentWriting-refl [])).went

  went_plain : Went 0 0 (arrays_before shown old stock now) (arrays_after shown new stock now)
  went_plain =
      subst (λ (xs : List Shown). Went 0 0 (xs ++ stock.kept ++ now.drawn) (arrays_after shown new stock now)) (append-nil (external_slots shown old))
      (subst (λ (xs : List Shown). Went 0 0 (external_slots shown old ++ [] ++ stock.kept ++ now.drawn) (xs ++ now.kept ++ stock.drawn)) (append-nil (external_slots shown new)) (went_none []))

  -- none was written
  pub none_writes : MoreCalls 0 0 (arrays_before shown old stock now) (arrays_after shown new stock now)
  none_writes = went_plain.calls

  pub none_tells : LevelTells shown old new stock now
  none_tells = went_plain.tells

  pub none_calls : LevelCalls shown level old new stock now
  none_calls =
      record {
        inputs = inputs;
        others = others;
        of = of;
        blocks = 0;
        few = (let z : 0 * stock.block ≡ 0 = omega arith in omega (arith, z, may.size.some));
        calls = record { written = went_plain.calls.written; stay = went_plain.calls.stay; read = omega (arith, went_plain.calls.read) };
      }

  none_room : length (external_slots shown new) + stock.slot_room ≡ length (external_slots shown old) + now.slot_room
  none_room = omega (arith, ap (λ s. s.slot_room) found.stock, slots_counted shown old, slots_counted shown new, sum_same (λ (a : External S R). length a.stored))

  pub none_kept : Kept stock now (held_in shown old lanes) (held_in shown new lanes)
  none_kept =
      let j = job_slots shown lanes.jobs.items in
      record {
        slots = (went_none j).same;
        slot_room = omega (arith, none_room, length-append (external_slots shown new) j, length-append (external_slots shown old) j);
        buffers = omega (arith, ap (λ s. s.buffer_room) found.stock, sum_same (λ (a : External S R). length (buffers_of a.loaded)));
        block = ap (λ s. s.block) found.stock;
      }

  none_block : now.block ≡ stock.block
  none_block = ap (λ s. s.block) found.stock

  pub none_size : AreOneSize shown width new lanes now
  none_size =
      record {
        some = subst (λ b. 1 ≤ b) (sym none_block) may.size.some;
        small = subst (λ b. b ≤ 65536) (sym none_block) may.size.small;
        idle = subst (λ b. All (HasBlock b) lanes.idle) (sym none_block) may.size.idle;
        external = subst (λ b. All (HasSlots shown (b * width)) new) (sym none_block) (all_new (HasSlots shown (stock.block * width)) may.size.external);
        loaded = subst (λ b. All (λ (a : External S R). RunHasBlock b a.loaded) new) (sym none_block) (all_new (λ (a : External S R). RunHasBlock stock.block a.loaded) may.size.loaded);
        takes_back = omega (arith, none_room, may.size.takes_back);
      }

  pub none_again : MayLevel shown width workers new lanes now
  none_again =
      let buf : External S R → ℕ = λ a. length (buffers_of a.loaded) in
      record {
        size = none_size;
        lifted = all_new (λ (a : External S R). a.lifted ≡ []) may.lifted;
        spent = all_new (λ (a : External S R). a.loaded.spent ≡ []) may.spent;
        fitting = all_new (λ (a : External S R). All IsFitting (buffers_of a.loaded)) may.fitting;
        packed = subst (λ b. All (λ (a : External S R). IsPacked b a.stored) new) (sym none_block) (all_new (λ (a : External S R). IsPacked stock.block a.stored) may.packed);
        buffers = may.buffers;
        no_job = may.no_job;
        batch = may.batch ∙ ap (λ k. workers * k) (sym none_block);
        bounded = omega (arith, may.bounded, sum_same buf, sum_same (λ (a : External S R). one_if_some (items_of a.loaded)));
        few_buffers = omega (arith, may.few_buffers, sum_same buf);
        few_blocks = omega (arith, may.few_blocks, sum_same buf, sum_same (λ (a : External S R). length a.stored));
        few_records = omega (arith, may.few_records, sum_same size_of);
      }
