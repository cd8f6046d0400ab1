-- A block is read into a buffer, and a turn loads it or loses it.
use Rattle.std.proofs.Common.{◌≡◌, inl, inr, ℕ, ◌+◌, ◌*◌, ◌<◌, ◌≤◌, List, [], ◌∷◌, ◌++◌, length, drop, Option, Result, Ok, Err, refl, sym, ap, ap₂, ◌∙◌, subst, arith, ◌==◌, Bool, true, false, cond, map, get_or, slice_set, sum_by, All, length-append, length-set, true≢false}
use Rattle.std.proofs.lemmas.Bool.{cases_lt, eq-eqb}
use Rattle.std.proofs.lemmas.Result.{IfOk-at_ok, IfErr-at_err}
use Rattle.ppq_array.specs.ppq_record.Given.{records_from}
use Rattle.ppq_array.specs.ppq_block.Block.{Block, holding}
use Rattle.ppq_array.specs.ppq_block.Told.{records_told}
use Rattle.ppq_array.proofs.ppq_block.Blocks.{length-records_from}
use Rattle.ppq_array.proofs.ppq_block.Buffers.{fits_one}
use Rattle.ppq_array.specs.ppq_outside.Shown.{Shown, Tells, IsRead}
use Rattle.ppq_array.specs.ppq_outside.Told.{Keeps, Rose, next_count}
use Rattle.ppq_array.proofs.ppq_outside.Slots.{holds_written}
use Rattle.ppq_lane.specs.Jobs.{IsReadInto}
use Rattle.ppq_array.specs.declared.berth.DeviceBlock.{DeviceBlock}
use Rattle.ppq_array.specs.Run.{Run, run_of, items_of, buffers_of}
use Rattle.ppq_array.specs.External.{External, external, waiting, records_in, blocks_items, block_items, FirstTells, IsLabelled, counts, size_of}
use Rattle.ppq_array.specs.Supply.{Stock, GetsSlot}
use Rattle.ppq_fetch.specs.Steps.{SlotRead, BlockLoaded, BlockLost}
use Rattle.std.specs.List.{AllByRecursion as Each}
use Rattle.std.specs.Cmp.{IsStrictWeakOrder}
use Rattle.std.specs.declared.cmp.Ordering.{Ordering}
use Rattle.std.proofs.lemmas.List.{length-map}
use Rattle.std.proofs.lemmas.List.Concat.{flat_map-cons}
use Rattle.std.proofs.lemmas.List.Sums.{sum_by-cons, sum_by-append, sum_by_push, sum_by-set}
use Rattle.std.proofs.lemmas.List.Elements.{All-set, All-get_or, All-head, All-tail, All-append, All-nil, All-cons, All-from_recursion}
use Rattle.ppq_array.specs.ppq_record.Order.{is_before, Ascends}
use Rattle.ppq_array.specs.ppq_record.Bag.{IsSameBag}
use Rattle.ppq_array.specs.ppq_record.Runs.{all_of}
use Rattle.ppq_array.specs.Owner.{HasBlock, HasSlot, slots_shown}
use Rattle.ppq_array.specs.Kept.{AreQuiet, weight_at, overread}
use Rattle.ppq_array.specs.Holdings.{external_slots, external_buffers, RunHasBlock, HasSlots}
use Rattle.ppq_array.proofs.Noted.{all_left, all_right}
use Rattle.ppq_fetch.specs.Turns.{HasBuffer}
use Rattle.ppq_fetch.specs.Fetching.{State, state, AreSources, MayFetch, PartsKept, FetchFailed, SourcesTell, WentOn, IsFitting, fronts_in, one_if_some, loaded_lists, blocks_in, slots_in, waiting_items, source_items}
use Rattle.ppq_fetch.proofs.Parted.{taken_none, taken_same}
use Rattle.ppq_fetch.specs.Untold.{untold, untold_of}
use Rattle.ppq_fetch.proofs.Sums.{one_le, none_told, tell_sum, sum_tell, loaded_of, sum_flat_map, sum_all_of, sum_two_of}
use Rattle.ppq_fetch.specs.Rounds.{TookTurn, LostTurn}
use Rattle.ppq_fetch.proofs.Rounds.{none_below, long_three, zip_set, each_set, on_same}

pub count_fits : (count block width bytes : ℕ) → 1 ≤ width → count * width ≤ bytes → bytes ≡ block * width → count ≤ block
count_fits count block width bytes w h e = elim (cases_lt block count) as (λ _. count ≤ block) [
  | inl k ↦ absurd (omega (arith, fits_one width count block k, h, e, w))
  | inr k ↦ omega (arith, k)
]

module _ {S R : Type 0} (record_of : List ℕ → R) (width : ℕ) (shown : S → Shown) where
  abbrev slot_read : {T E : Type 0} (answer : Result T E) (block : DeviceBlock S R) (slot : Shown) (bytes : List ℕ) (s t : Stock) → IsRead answer bytes (shown block.slot) slot → slot.reads ≤ (shown block.slot).reads + 1 → overread slot ≤ overread (shown block.slot) → GetsSlot s slot t → SlotRead record_of width shown block s t
  slot_read answer block slot bytes s t r n once freed = record {
    slot = slot;
    told = r.kept;
    number = r.number;
    size = r.size;
    faults = r.cause.later;
    writes = r.writes;
    least_reads = r.reads.later;
    reads = n;
    once = once;
    freed = freed;
  }

  -- what a buffer has after a read of the block
  pub filled :
      {T E : Type 0} (answer : Result T E) (u : T) → answer ≡ Ok u → (block : DeviceBlock S R) (slot : Shown) (count : ℕ) (buf buf' : Block R) → count ≡ block.count → IsReadInto record_of width count answer (shown block.slot) slot buf buf'
      → (length buf'.items ≡ block.count) × ((Tells (shown block.slot) → buf'.items ≡ block_items record_of width shown block) × (buf'.block ≡ buf.block))
  filled answer u e block slot count buf buf' n r =
      let is : buf' ≡ holding buf.block (records_from record_of width count r.bytes) = IfOk-at_ok (λ _. buf' ≡ holding buf.block (records_from record_of width count r.bytes)) e r.records in
      let items : buf'.items ≡ records_from record_of width count r.bytes = ap (λ (b : Block R). b.items) is in
      let given : Keeps (shown block.slot).told (shown block.slot).told r.bytes = IfOk-at_ok (λ _. Keeps (shown block.slot).told (shown block.slot).told r.bytes) e r.read.given in (
        omega (arith, ap length items, length-records_from record_of width count r.bytes, n),
        (λ t. items ∙ (ap (λ k. records_from record_of width k r.bytes) n ∙ ap (λ told. records_told record_of width block.count told) (sym (holds_written (shown block.slot).told (shown block.slot).told r.bytes t given))), ap (λ (b : Block R). b.block) is),
      )

  pub block_loaded :
      {T E : Type 0} (answer : Result T E) (u : T) → answer ≡ Ok u → (block : DeviceBlock S R) (slot : Shown) (count : ℕ) (buf buf' : Block R) → count ≡ block.count → IsReadInto record_of width count answer (shown block.slot) slot buf buf' → IsLabelled record_of width shown block
      → (a m b : External S R) → a.stored ≡ block ∷ m.stored → a.lifted ≡ [] → m ≡ external a.level a.loaded (a.lifted ++ block ∷ []) m.stored
      → b.loaded ≡ run_of (m.loaded.live ++ buf' ∷ []) m.loaded.taken m.loaded.spent → items_of b.loaded ≡ items_of m.loaded ++ buf'.items
      → (FirstTells record_of width shown m.lifted → records_in record_of width shown b ≡ records_in record_of width shown m) → b ≡ external m.level b.loaded (drop 1 m.lifted) m.stored
      → (idle idle' : List (Block R)) → idle ≡ buf ∷ idle' → (s t : Stock) → GetsSlot s slot t → BlockLoaded record_of width shown a b idle idle' s t
  block_loaded answer u e block slot count buf buf' n r labelled a m b st none mrest bl items same brest idle idle' taken s t freed =
      let f = filled answer u e block slot count buf buf' n r in
      let once : slot.reads ≡ next_count (shown block.slot).reads = IfOk-at_ok (λ _. slot.reads ≡ next_count (shown block.slot).reads) e r.read.reads.ok in
      let lif : m.lifted ≡ block ∷ [] = ap (λ (z : External S R). z.lifted) mrest ∙ ap (λ xs. xs ++ block ∷ []) none in
      let ml : m.loaded ≡ a.loaded = ap (λ (z : External S R). z.loaded) mrest in
      let lv : m.level ≡ a.level = ap (λ (z : External S R). z.level) mrest in
      let bs : b.stored ≡ m.stored = ap (λ (z : External S R). z.stored) brest in
      let ld : b.loaded ≡ run_of (a.loaded.live ++ buf' ∷ []) a.loaded.taken a.loaded.spent = bl ∙ ap (λ (z : Run R). run_of (z.live ++ buf' ∷ []) z.taken z.spent) ml in
      let wait : waiting m ≡ waiting a = ap₂ (λ xs ys. xs ++ ys) lif refl ∙ (sym st ∙ ap₂ (λ xs ys. xs ++ ys) (sym none) refl) in
      record {
        block = block;
        buf = buf;
        filled = buf';
        stored = st ∙ ap (λ xs. block ∷ xs) (sym bs);
        taken = taken;
        room = f.1.1;
        count = f.0;
        some = labelled.some;
        fits = labelled.fits;
        array = brest ∙ (ap (λ k. external k b.loaded (drop 1 m.lifted) m.stored) lv ∙ (ap (λ k. external a.level k (drop 1 m.lifted) m.stored) ld ∙ (ap (λ k. external a.level (run_of (a.loaded.live ++ buf' ∷ []) a.loaded.taken a.loaded.spent) (drop 1 k) m.stored) lif ∙ ap (λ k. external a.level (run_of (a.loaded.live ++ buf' ∷ []) a.loaded.taken a.loaded.spent) [] k) (sym bs))));
        items = items ∙ ap (λ (z : Run R). items_of z ++ buf'.items) ml;
        same = λ tells. same (subst (FirstTells record_of width shown) (sym lif) tells) ∙ ap₂ (λ (z : Run R) w. items_of z ++ blocks_items record_of width shown w) ml wait;
        read = slot_read answer block slot r.bytes s t r.read (omega (arith, once)) (omega (arith, once, r.read.writes, labelled.unread)) freed;
        quiet = IfOk-at_ok (λ _. slot.faults ≡ (shown block.slot).faults) e r.read.cause.ok;
      }

  pub block_lost :
      {T E : Type 0} (answer : Result T E) (x : E) → answer ≡ Err x → (number : ℕ) (block : DeviceBlock S R) (slot : Shown) (count : ℕ) (buf buf' : Block R) → number ≡ slot.number → IsReadInto record_of width count answer (shown block.slot) slot buf buf'
      → (a m : External S R) → a.stored ≡ block ∷ m.stored → a.lifted ≡ [] → m ≡ external a.level a.loaded (a.lifted ++ block ∷ []) m.stored
      → (idle left idle' : List (Block R)) → idle ≡ buf ∷ left → idle' ≡ left ++ buf' ∷ [] → (s t : Stock) → GetsSlot s slot t → BlockLost record_of width shown number a m idle idle' s t
  block_lost answer x e number block slot count buf buf' named r a m st none mrest idle left idle' taken returned s t freed =
      let is : buf' ≡ holding buf.block [] = IfErr-at_err (λ _. buf' ≡ holding buf.block []) e r.none in
      let still : slot.reads ≡ (shown block.slot).reads = IfErr-at_err (λ _. slot.reads ≡ (shown block.slot).reads) e r.read.reads.err in
      let rose : Rose (shown block.slot).faults slot.faults = IfErr-at_err (λ _. Rose (shown block.slot).faults slot.faults) e r.read.cause.failed in
      let some : 0 < slot.faults = omega (arith, rose) in
      record {
        block = block;
        buf = buf;
        back = buf';
        left = left;
        stored = st;
        taken = taken;
        returned = returned;
        room = ap (λ (b : Block R). b.block) is;
        array = mrest ∙ ap (λ xs. external a.level a.loaded (xs ++ block ∷ []) m.stored) none;
        named = named ∙ r.read.number;
        read = slot_read answer block slot r.bytes s t r.read (omega (arith, still)) (omega (arith, still, r.read.writes)) freed;
        failed = some;
      }

cond_le : (x y : Bool) → y ≡ x → (m k : ℕ) → m ≤ k → cond x m 0 ≤ cond y k 0
cond_le true true e m k h = h
cond_le true false e m k h = absurd (true≢false (sym e))
cond_le false y e m k h = omega arith

weight_le : (f : Shown → ℕ) (n : ℕ) (a b : Shown) → b.number ≡ a.number → f a ≤ f b → weight_at f n a ≤ weight_at f n b
weight_le f n a b e h = cond_le (a.number == n) (b.number == n) (ap (λ k. k == n) e) (f a) (f b) h

once_same : (n : ℕ) (a b : Shown) → b.number ≡ a.number → weight_at (λ s. 1) n b ≡ weight_at (λ s. 1) n a
once_same n a b e = ap (λ k. cond (k == n) 1 0) e

size_same : (n : ℕ) (a b : Shown) → b.number ≡ a.number → b.size ≡ a.size → weight_at (λ s. s.size) n b ≡ weight_at (λ s. s.size) n a
size_same n a b e f = ap₂ (λ k z. cond (k == n) z 0) e f

named : (number : ℕ) (s : Shown) → number ≡ s.number → weight_at (λ s. s.faults) number s ≡ s.faults
named number s e = ap (λ v. cond v s.faults 0) (eq-eqb s.number number (sym e))

each_at : {X : Type 0} (Q : X → Type 0) (xs : List X) (i : ℕ) (d : X) → i < length xs → Each Q xs → Q (get_or xs i d)
each_at Q xs i d h e = All-get_or Q xs i d h (All-from_recursion Q xs e)

one_or_more : {X : Type 0} (xs ys : List X) → 1 ≤ length ys → one_if_some (xs ++ ys) ≡ 1
one_or_more [] [] h = absurd (omega arith)
one_or_more [] (y ∷ ys) h = refl
one_or_more (x ∷ xs) ys h = refl

module _ {S R : Type 0} (record_of : List ℕ → R) (width : ℕ) (shown : S → Shown) where
  pub slots_long : (xs : List (External S R)) → length (external_slots shown xs) ≡ blocks_in xs
  slots_long [] = refl
  slots_long (x ∷ xs) = omega (
    arith,
    ap length (flat_map-cons (λ (a : External S R). slots_shown shown a.stored) x xs),
    length-append (slots_shown shown x.stored) (external_slots shown xs),
    length-map x.stored (λ (d : DeviceBlock S R). shown d.slot),
    slots_long xs,
    sum_by-cons (λ (a : External S R). length a.stored) x xs,
  )

  source_sum :
      (f : R → ℕ) (s : State S R)
      → sum_by f (source_items record_of width shown s) ≡ sum_by (λ (run : Run R). sum_by f (items_of run)) s.internal + sum_by (λ (a : External S R). sum_by f (items_of a.loaded)) s.external + sum_by (λ (a : External S R). sum_by f (blocks_items record_of width shown (waiting a))) s.external
  source_sum f s = omega (
    arith,
    sum_by-append f (all_of (loaded_lists s.internal s.external)) (waiting_items record_of width shown s.external),
    sum_two_of f (map items_of s.internal) (map loaded_of s.external),
    sum_all_of f items_of s.internal,
    sum_all_of f loaded_of s.external,
    sum_flat_map f (λ (a : External S R). blocks_items record_of width shown (waiting a)) s.external,
  )

  module _ (internal : List (Run R)) (arrays : List (External S R)) (i : ℕ) (d b : External S R) (idle idle' : List (Block R)) (stock stock' : Stock) (h : i < length arrays) where
    abbrev pub a : External S R
    a = get_or arrays i d

    abbrev pub before : State S R
    before = state internal arrays idle stock

    abbrev pub after : State S R
    after = state internal (slice_set arrays i b) idle' stock'

    set_sum : (f : External S R → ℕ) → sum_by f (slice_set arrays i b) + f (get_or arrays i d) ≡ sum_by f arrays + f b
    set_sum f = sum_by-set f arrays i b d h

    module _ (block : DeviceBlock S R) (stored : a.stored ≡ block ∷ b.stored) (level : b.level ≡ a.level) (read : SlotRead record_of width shown block stock stock') (few : length (buffers_of b.loaded) + length idle' ≡ length (buffers_of a.loaded) + length idle) where
      slots_set : (f : Shown → ℕ) → sum_by f (external_slots shown (slice_set arrays i b)) + f (shown block.slot) ≡ sum_by f (external_slots shown arrays)
      slots_set f =
          let g = λ (a : External S R). slots_shown shown a.stored in
          omega (arith, sum_flat_map f g arrays, sum_flat_map f g (slice_set arrays i b), set_sum (λ (a : External S R). sum_by f (slots_shown shown a.stored)), ap (λ bs. sum_by f (slots_shown shown bs)) stored, sum_by-cons f (shown block.slot) (slots_shown shown b.stored))

      pub blocks_set : blocks_in (slice_set arrays i b) + 1 ≡ blocks_in arrays
      blocks_set = omega (arith, set_sum (λ (a : External S R). length a.stored), ap length stored)

      kept : stock'.kept ≡ stock.kept ++ read.slot ∷ []
      kept = ap (λ (s : Stock). s.kept) read.freed

      drawn : stock'.drawn ≡ stock.drawn
      drawn = ap (λ (s : Stock). s.drawn) read.freed

      -- what is added up of the slots of the runs and those that are kept
      both_set : (f : Shown → ℕ) → sum_by f (slots_in shown after) + f (shown block.slot) ≡ sum_by f (slots_in shown before) + f read.slot
      both_set f =
          omega (
            arith,
            slots_set f,
            sum_by-append f (external_slots shown (slice_set arrays i b)) stock'.kept,
            sum_by-append f (external_slots shown arrays) stock.kept,
            ap (sum_by f) kept,
            sum_by_push f stock.kept read.slot,
          )

      all_set : (f : Shown → ℕ) → sum_by f (slots_in shown after ++ stock.drawn) + f (shown block.slot) ≡ sum_by f (slots_in shown before ++ stock'.drawn) + f read.slot
      all_set f = omega (arith, both_set f, sum_by-append f (slots_in shown after) stock.drawn, sum_by-append f (slots_in shown before) stock'.drawn, ap (sum_by f) drawn)

      untold_set : sum_by untold (slots_in shown after) ≡ sum_by untold (slots_in shown before)
      untold_set = omega (arith, both_set untold, ap untold_of read.told)

      quiet_set : read.slot.faults ≡ (shown block.slot).faults → AreQuiet (slots_in shown before) (slots_in shown after)
      quiet_set e = omega (arith, both_set (λ s. s.faults), e)

      pub parts_set : length (external_slots shown arrays) ≤ stock.slot_room → size_of b ≤ size_of a → PartsKept shown before after
      parts_set room size =
          let n1 = slots_long arrays in
          let n2 = slots_long (slice_set arrays i b) in
          record {
            kept = record {
              slots = record {
                length = omega (arith, n1, n2, blocks_set, long_three (external_slots shown (slice_set arrays i b)) stock'.kept stock.drawn, long_three (external_slots shown arrays) stock.kept stock'.drawn, ap length kept, length-append stock.kept (read.slot ∷ []), ap length drawn);
                each_once = λ n. omega (arith, all_set (weight_at (λ s. 1) n), once_same n (shown block.slot) read.slot read.number);
                faults = λ n. omega (arith, all_set (weight_at (λ s. s.faults) n), weight_le (λ s. s.faults) n (shown block.slot) read.slot read.number read.faults);
                writes = λ n. omega (arith, all_set (weight_at (λ s. s.writes) n), weight_le (λ s. s.writes) n (shown block.slot) read.slot read.number (omega (arith, read.writes)));
                reads = λ n. omega (arith, all_set (weight_at (λ s. s.reads) n), weight_le (λ s. s.reads) n (shown block.slot) read.slot read.number read.least_reads);
                sizes = λ n. omega (arith, all_set (weight_at (λ s. s.size) n), size_same n (shown block.slot) read.slot read.number read.size);
                overreads = omega (arith, all_set overread, read.once);
              };
              slot_room = omega (arith, n1, n2, blocks_set, room, ap (λ (s : Stock). s.slot_room) read.freed);
              buffers = omega (arith, few, set_sum (λ (a : External S R). length (buffers_of a.loaded)), ap (λ (s : Stock). s.buffer_room) read.freed);
              block = ap (λ (s : Stock). s.block) read.freed;
            };
            internal = refl;
            in_memory = omega arith;
            buffers = omega (arith, few, set_sum (λ (a : External S R). length (buffers_of a.loaded)));
            went_on = zip_set WentOn on_same arrays i d b record { level = level; loads = 1; within = omega (arith, ap length stored); stored = sym (ap (drop 1) stored); size = size };
            stock = record {
              more = read.slot ∷ [];
              kept = kept;
              counted = omega (arith, blocks_set);
              drawn = drawn;
              sure = omega (arith, ap (λ (s : Stock). s.sure_buffers) read.freed);
              dry = ap (λ (s : Stock). s.dry) read.freed;
              scant = ap (λ (s : Stock). s.scant) read.freed;
              room_when_scant = ap (λ (s : Stock). s.room_when_scant) read.freed;
            };
            transfers = record {
              writes = omega (arith, both_set (λ s. s.writes), read.writes);
              reads = omega (arith, blocks_set, both_set (λ s. s.reads), read.reads);
            };
            all_tell = (
              λ tell. sum_tell (external_slots shown (slice_set arrays i b) ++ stock'.kept) (untold_set ∙ tell_sum (external_slots shown arrays ++ stock.kept) tell),
              λ tell. sum_tell (external_slots shown arrays ++ stock.kept) (sym untold_set ∙ tell_sum (external_slots shown (slice_set arrays i b) ++ stock'.kept) tell),
            );
          }

      sources_set :
          (ahead : ℕ) → AreSources shown width ahead before → All (HasBlock stock.block) idle' → RunHasBlock stock.block b.loaded → All IsFitting (buffers_of b.loaded) → b.loaded.spent ≡ [] → size_of b ≡ size_of a
          → external_buffers (slice_set arrays i b) ≤ fronts_in (slice_set arrays i b) + ahead → AreSources shown width ahead after
      sources_set ahead s good has fits spent size bounded =
          let be = ap (λ (s : Stock). s.block) read.freed in
          let n = stock.block in
          let n1 = slots_long arrays in
          let n2 = slots_long (slice_set arrays i b) in
          let sizes : HasSlots shown (n * width) b = All-tail (HasSlot shown (n * width)) block b.stored (subst (All (HasSlot shown (n * width))) stored (All-get_or (HasSlots shown (n * width)) arrays i d h s.external)) in
          record {
            idle = subst (λ k. All (HasBlock k) idle') (sym be) good;
            internal = subst (λ k. All (RunHasBlock k) internal) (sym be) s.internal;
            external = subst (λ k. All (HasSlots shown (k * width)) (slice_set arrays i b)) (sym be) (All-set (HasSlots shown (n * width)) arrays i b sizes s.external);
            loaded = subst (λ k. All (λ (a : External S R). RunHasBlock k a.loaded) (slice_set arrays i b)) (sym be) (All-set (λ (a : External S R). RunHasBlock n a.loaded) arrays i b has s.loaded);
            fitting = All-set (λ (a : External S R). All IsFitting (buffers_of a.loaded)) arrays i b fits s.fitting;
            internal_fitting = s.internal_fitting;
            internal_spent = s.internal_spent;
            external_spent = each_set (λ (a : External S R). a.loaded.spent ≡ []) arrays i b spent s.external_spent;
            takes_back = record { slots = omega (arith, s.takes_back.slots, n1, n2, blocks_set, ap (λ (s : Stock). s.slot_room) read.freed); buffers = omega (arith, s.takes_back.buffers, ap (λ (s : Stock). s.buffer_room) read.freed) };
            fronts = omega (arith, s.fronts, few, set_sum (λ (a : External S R). length (buffers_of a.loaded)), length-set arrays i b);
            bounded = bounded;
            few_buffers = omega (arith, s.few_buffers, few, set_sum (λ (a : External S R). length (buffers_of a.loaded)));
            few_runs = omega (arith, s.few_runs, length-set arrays i b);
            few_records = omega (arith, s.few_records, size, set_sum (λ (a : External S R). size_of a));
          }

    -- a block was loaded
    module _ (x : BlockLoaded record_of width shown a b idle idle' stock stock') where
      lv : b.level ≡ a.level
      lv = ap (λ (z : External S R). z.level) x.array

      buffers_more : length (buffers_of b.loaded) ≡ length (buffers_of a.loaded) + 1
      buffers_more = omega (arith, ap (λ (z : External S R). length (buffers_of z.loaded)) x.array, length-append a.loaded.spent (a.loaded.live ++ x.filled ∷ []), length-append a.loaded.live (x.filled ∷ []), length-append a.loaded.spent a.loaded.live)

      fewer : length (buffers_of b.loaded) + length idle' ≡ length (buffers_of a.loaded) + length idle
      fewer = omega (arith, buffers_more, ap length x.taken)

      one_front : one_if_some (items_of b.loaded) ≡ 1
      one_front = ap one_if_some x.items ∙ one_or_more (items_of a.loaded) x.filled.items (omega (arith, x.some, x.count))

      sized : a.lifted ≡ [] → size_of b ≡ size_of a
      sized none =
          let wa : waiting a ≡ x.block ∷ b.stored = ap₂ (λ us vs. us ++ vs) none x.stored in
          let wb : waiting b ≡ b.stored = ap₂ (λ us vs. us ++ vs) (ap (λ (z : External S R). z.lifted) x.array) refl in
          omega (arith, ap length x.items, length-append (items_of a.loaded) x.filled.items, x.count, ap counts wa, ap counts wb, sum_by-cons (λ (k : DeviceBlock S R). k.count) x.block b.stored)

      pub loaded_sources : (ahead : ℕ) → 1 ≤ width → AreSources shown width ahead before → a.lifted ≡ [] → HasBuffer arrays ahead a → AreSources shown width ahead after
      loaded_sources ahead w s none buffer =
          let n = stock.block in
          let idles = subst (All (HasBlock n)) x.taken s.idle in
          let has : x.filled.block ≡ n = x.room ∙ All-head (HasBlock n) x.buf idle' idles in
          let size = All-head (HasSlot shown (n * width)) x.block b.stored (subst (All (HasSlot shown (n * width))) x.stored (All-get_or (HasSlots shown (n * width)) arrays i d h s.external)) in
          let fit : length x.filled.items ≤ x.filled.block = omega (arith, x.count, count_fits x.block.count x.filled.block width (shown x.block.slot).size w x.fits (size.size ∙ ap (λ k. k * width) (sym has))) in
          let spent : b.loaded.spent ≡ [] = ap (λ (z : External S R). z.loaded.spent) x.array ∙ each_at (λ (a : External S R). a.loaded.spent ≡ []) arrays i d h s.external_spent in
          let more : buffers_of b.loaded ≡ a.loaded.spent ++ (a.loaded.live ++ x.filled ∷ []) = ap (λ (z : External S R). buffers_of z.loaded) x.array in
          let had = All-get_or (λ (a : External S R). RunHasBlock n a.loaded) arrays i d h s.loaded in
          let fitted = All-get_or (λ (a : External S R). All IsFitting (buffers_of a.loaded)) arrays i d h s.fitting in
          let put = λ (P : Block R → Type 0) (p : P x.filled) (all : All P (a.loaded.spent ++ a.loaded.live)).
          subst (All P) (sym more) (All-append P a.loaded.spent (a.loaded.live ++ x.filled ∷ []) (all_left P a.loaded.spent a.loaded.live all) (All-append P a.loaded.live (x.filled ∷ []) (all_right P a.loaded.spent a.loaded.live all) (All-cons P x.filled [] p (All-nil P)))) in
          let up = set_sum (λ (a : External S R). length (buffers_of a.loaded)) in
          let fr = set_sum (λ (a : External S R). one_if_some (items_of a.loaded)) in
          let bounded = elim buffer as (λ _. external_buffers (slice_set arrays i b) ≤ fronts_in (slice_set arrays i b) + ahead) [
            | inl e ↦ omega (arith, s.bounded, up, fr, buffers_more, one_front, ap one_if_some e)
            | inr l ↦ omega (arith, l, up, fr, buffers_more, one_front, one_le (items_of a.loaded))
          ] in
          sources_set x.block x.stored lv x.read fewer ahead s (All-tail (HasBlock n) x.buf idle' idles) (put (HasBlock n) has had) (put IsFitting fit fitted) spent (sized none) bounded

      no_larger : size_of b ≤ size_of a
      no_larger =
          let wb : waiting b ≡ b.stored = ap (λ (z : External S R). z.lifted ++ b.stored) x.array in
          omega (
            arith,
            ap length x.items,
            length-append (items_of a.loaded) x.filled.items,
            x.count,
            sum_by-append (λ (k : DeviceBlock S R). k.count) a.lifted a.stored,
            ap counts x.stored,
            ap counts wb,
            sum_by-cons (λ (k : DeviceBlock S R). k.count) x.block b.stored,
          )

      pub loaded_parts : (ahead : ℕ) → AreSources shown width ahead before → PartsKept shown before after
      loaded_parts ahead s = parts_set x.block x.stored lv x.read fewer s.takes_back.slots no_larger

      -- one block more is loaded ahead at most
      pub loaded_room : (ahead : ℕ) → external_buffers arrays + 2 ≤ fronts_in arrays + ahead → external_buffers (slice_set arrays i b) < fronts_in (slice_set arrays i b) + ahead
      loaded_room ahead room =
          omega (arith, room, set_sum (λ (a : External S R). length (buffers_of a.loaded)), set_sum (λ (a : External S R). one_if_some (items_of a.loaded)), buffers_more, one_front, one_le (items_of a.loaded))

      loaded_may : (ahead : ℕ) → 1 ≤ width → MayFetch shown width ahead before → HasBuffer arrays ahead a → MayFetch shown width ahead after
      loaded_may ahead w m buffer = record {
        sources = loaded_sources ahead w m.sources (each_at (λ (a : External S R). a.lifted ≡ []) arrays i d h m.none_lifted) buffer;
        none_lifted = each_set (λ (a : External S R). a.lifted ≡ []) arrays i b (ap (λ (z : External S R). z.lifted) x.array) m.none_lifted;
      }

      pub loaded_turn :
          (cmp : R → R → Ordering) → IsStrictWeakOrder (is_before cmp) → (below : Option R) (ahead : ℕ) → 1 ≤ width → MayFetch shown width ahead before → HasBuffer arrays ahead a → TookTurn cmp record_of width shown below ahead before after []
      loaded_turn cmp o below ahead w m buffer =
          let none = each_at (λ (a : External S R). a.lifted ≡ []) arrays i d h m.none_lifted in
          let told = λ (t : SourcesTell shown before). none_told (shown x.block.slot).told (omega (arith, slots_set x.block x.stored lv x.read fewer untold, tell_sum (external_slots shown arrays) t)) in
          let bag : (t : SourcesTell shown before) → IsSameBag (source_items record_of width shown before) (source_items record_of width shown after) = λ t p.
          let f : R → ℕ = λ z. cond (p z) 1 0 in
          omega (
            arith,
            source_sum f before,
            source_sum f after,
            set_sum (λ (a : External S R). sum_by f (items_of a.loaded)),
            set_sum (λ (a : External S R). sum_by f (blocks_items record_of width shown (waiting a))),
            sum_by-append f (items_of a.loaded) (blocks_items record_of width shown (waiting a)),
            sum_by-append f (items_of b.loaded) (blocks_items record_of width shown (waiting b)),
            ap (sum_by f) (x.same (told t)),
          ) in
          record {
            fetched = record {
              parts = loaded_parts ahead m.sources;
              quiet = quiet_set x.block x.stored lv x.read fewer x.quiet;
              counted = omega (arith, sized none, set_sum (λ (a : External S R). size_of a));
              tell = λ t. sum_tell (external_slots shown (slice_set arrays i b)) (omega (arith, slots_set x.block x.stored lv x.read fewer untold, tell_sum (external_slots shown arrays) t));
              rise = λ t r. record {
                internal = r.internal;
                external = each_set (λ (a : External S R). Ascends cmp (records_in record_of width shown a)) arrays i b (subst (Ascends cmp) (sym (x.same (told t))) (each_at (λ (a : External S R). Ascends cmp (records_in record_of width shown a)) arrays i d h r.external)) r.external;
              };
              taken = λ t r. taken_same cmp o (source_items record_of width shown before) [] (source_items record_of width shown before) (source_items record_of width shown after) (taken_none cmp o (source_items record_of width shown before)) (bag t);
              under = λ t r. none_below cmp below;
            };
            may = loaded_may ahead w m buffer;
            less = omega (arith, blocks_set x.block x.stored lv x.read fewer);
          }

    -- a block was lost
    module _ (number : ℕ) (x : BlockLost record_of width shown number a b idle idle' stock stock') where
      same_level : b.level ≡ a.level
      same_level = ap (λ (z : External S R). z.level) x.array

      same_loaded : b.loaded ≡ a.loaded
      same_loaded = ap (λ (z : External S R). z.loaded) x.array

      same_few : length (buffers_of b.loaded) + length idle' ≡ length (buffers_of a.loaded) + length idle
      same_few = omega (arith, ap (λ (r : Run R). length (buffers_of r)) same_loaded, ap length x.taken, ap length x.returned, length-append x.left (x.back ∷ []))

      no_larger_lost : size_of b ≤ size_of a
      no_larger_lost =
          let wb : waiting b ≡ x.block ∷ b.stored = ap (λ (z : External S R). z.lifted ++ b.stored) x.array in
          omega (arith, ap (λ (r : Run R). length (items_of r)) same_loaded, sum_by-append (λ (k : DeviceBlock S R). k.count) a.lifted a.stored, ap counts x.stored, ap counts wb)

      lost_sources : (ahead : ℕ) → AreSources shown width ahead before → a.lifted ≡ [] → AreSources shown width ahead after
      lost_sources ahead s none =
          let n = stock.block in
          let idles = subst (All (HasBlock n)) x.taken s.idle in
          let has : x.back.block ≡ n = x.room ∙ All-head (HasBlock n) x.buf x.left idles in
          let good = subst (All (HasBlock n)) (sym x.returned) (All-append (HasBlock n) x.left (x.back ∷ []) (All-tail (HasBlock n) x.buf x.left idles) (All-cons (HasBlock n) x.back [] has (All-nil (HasBlock n)))) in
          let wa : waiting a ≡ x.block ∷ b.stored = ap₂ (λ us vs. us ++ vs) none x.stored in
          let wb : waiting b ≡ x.block ∷ b.stored = ap₂ (λ us vs. us ++ vs) (ap (λ (z : External S R). z.lifted) x.array) refl in
          let up = set_sum (λ (a : External S R). length (buffers_of a.loaded)) in
          let fr = set_sum (λ (a : External S R). one_if_some (items_of a.loaded)) in
          sources_set x.block x.stored same_level x.read same_few ahead s good (subst (λ (r : Run R). RunHasBlock n r) (sym same_loaded) (All-get_or (λ (a : External S R). RunHasBlock n a.loaded) arrays i d h s.loaded))
          (subst (λ (r : Run R). All IsFitting (buffers_of r)) (sym same_loaded) (All-get_or (λ (a : External S R). All IsFitting (buffers_of a.loaded)) arrays i d h s.fitting))
          (ap (λ (r : Run R). r.spent) same_loaded ∙ each_at (λ (a : External S R). a.loaded.spent ≡ []) arrays i d h s.external_spent)
          (omega (arith, ap counts wa, ap counts wb, ap (λ (r : Run R). length (items_of r)) same_loaded))
          (omega (arith, s.bounded, up, fr, ap (λ (r : Run R). length (buffers_of r)) same_loaded, ap (λ (r : Run R). one_if_some (items_of r)) same_loaded))

      lost_failed : (ahead : ℕ) → AreSources shown width ahead before → FetchFailed shown number before after
      lost_failed ahead s =
          let kept_now = ap (λ (s : Stock). s.kept) x.read.freed in
          let w = weight_at (λ s. s.faults) number in
          let here : w x.read.slot ≡ x.read.slot.faults = named number x.read.slot (x.named ∙ sym x.read.number) in
          record {
            parts = parts_set x.block x.stored same_level x.read same_few s.takes_back.slots no_larger_lost;
            failed = omega (arith, x.failed, here, ap (sum_by w) kept_now, sum_by_push w stock.kept x.read.slot);
          }

      pub lost_turn : (ahead : ℕ) → AreSources shown width ahead before → a.lifted ≡ [] → LostTurn shown width ahead number before after
      lost_turn ahead s none = record { failed = lost_failed ahead s; sources = lost_sources ahead s none }

      -- the runs keep their buffers and what is loaded of them
      pub lost_room : (ahead : ℕ) → external_buffers arrays + 2 ≤ fronts_in arrays + ahead → external_buffers (slice_set arrays i b) < fronts_in (slice_set arrays i b) + ahead
      lost_room ahead room =
          omega (
            arith,
            room,
            set_sum (λ (a : External S R). length (buffers_of a.loaded)),
            set_sum (λ (a : External S R). one_if_some (items_of a.loaded)),
            ap (λ (r : Run R). length (buffers_of r)) same_loaded,
            ap (λ (r : Run R). one_if_some (items_of r)) same_loaded,
          )
