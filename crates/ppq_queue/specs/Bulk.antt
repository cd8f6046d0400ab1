-- Taking many records out of a queue at once.
use Rattle.std.specs.Prelude.{◌≡◌, ◌⊎◌, ℕ, ◌+◌, ◌-◌, ◌<◌, ◌≤◌, Bool, true, false, cond, List, [], ◌∷◌, ◌++◌, length, take, min, Option, Some, None, Result, Ok, Err, OnOk, OnErr, IfErr, IsOk, IsErrOf}
use Rattle.std.specs.declared.cmp.Ordering.{Ordering}
use Rattle.std.specs.List.{AllByRecursion as Each}
use Rattle.ppq_heap.specs.ppq_record.Order.{is_before, Ascends}
use Rattle.ppq_heap.specs.ppq_record.Bag.{IsSameBag, front, without_front, size_below}
use Rattle.ppq_extract.specs.ppq_outside.Shown.{Shown, AllTell}
use Rattle.ppq_extract.specs.ppq_array.Kept.{AreQuiet}
use Rattle.ppq_extract.specs.ppq_array.declared.store_fault.StoreFault.{StoreFault}
use Rattle.ppq_extract.specs.ppq_array.declared.store_fault.StoreFault.TheVariants.{NoFreeBlock}
use Rattle.ppq_heap.specs.Heaps.{Shares, items_of}
use Rattle.ppq_extract.specs.ppq_fetch.Taking.{wanted, NoneAfter, IsTaken, AllBelow, NoneBelow}
use Rattle.ppq_extract.specs.Extracted.{Held}
use Rattle.ppq_spill.specs.Costing.{Pays}
use Rattle.ppq_queue.specs.Choice.{goes_first}
use Rattle.ppq_queue.specs.Out.{Listed, listed}
use Rattle.ppq_queue.specs.Paying.{store_account}
use Rattle.ppq_queue.specs.Holding.{Holding, Keeps, IsRefusal, NamesAgain, CountsAs}
use Rattle.ppq_queue.specs.Resting.{count_of}
use Rattle.ppq_queue.specs.Stores.{MayWork, StoreKept, IsCrowded, HeapsStay, Refuses, stored, slots_in, whole_bag}
use Rattle.ppq_queue.specs.declared.store.Store.{Store}
use Rattle.ppq_queue.specs.declared.limit_end.LimitEnd.{LimitEnd}
use Rattle.ppq_queue.specs.declared.limit_end.LimitEnd.TheVariants.{All, More, Round}

-- an empty list that has room for so many records
pub record MayFill {R : Type 0} (most : ℕ) (out : Listed R) : Type 0 where
  pub none : out.items ≡ []
  pub room : most ≤ out.room

-- what is left in a list after an answer: nothing after an error
abbrev pub left_after : {T R : Type 0} → Result T StoreFault → Listed R → Listed R
left_after (Ok v) out = out
left_after (Err e) out = listed [] out.room

-- the extract buffer and the list have the room that they had
pub record RoomsStay {R : Type 0} (extract extract' : Held R) (out out' : Listed R) : Type 0 where
  pub first : extract'.room ≡ extract.room
  pub list : out'.room ≡ out.room

module _ {R : Type 0} (cmp : R → R → Ordering) where
  -- Why a bulk pop with a limit ended, of so many records wanted and so many that one call returns at most, with what is left: none below the
  -- limit is left; or one is, and all that were wanted were given; or one is, and fewer were given, as many as a call returns
  abbrev pub IsEnd : (batch wanted : ℕ) (limit : R) (given left : List R) → LimitEnd → Type 0
  IsEnd batch wanted limit given left All = size_below cmp left limit ≡ 0
  IsEnd batch wanted limit given left More = (length given ≡ wanted) × (0 < size_below cmp left limit)
  IsEnd batch wanted limit given left Round = (length given ≡ batch) × (batch < wanted) × (0 < size_below cmp left limit)

  -- the same by what is left alone, of so many records wanted and so much room: a list that is not full ended by all
  abbrev pub EndsBy : (room wanted : ℕ) (limit : R) (left : List R) → LimitEnd → Type 0
  EndsBy room wanted limit left All = size_below cmp left limit ≡ 0
  EndsBy room wanted limit left More = (wanted ≤ room) × (0 < size_below cmp left limit)
  EndsBy room wanted limit left Round = (room < wanted) × (0 < size_below cmp left limit)

  -- a record where it is below a limit, if there is one
  abbrev pub kept_below : Option R → Option R → Option R
  kept_below None limit = None
  kept_below (Some x) None = Some x
  kept_below (Some x) (Some l) = cond (is_before cmp x l) (Some x) None

  -- From heaps and an extract buffer the smallest records went to the end of a list, in order; if `more`, runs stand behind the
  -- extract buffer, none of whose records is before one of its
  pub record Merged (more : Bool) (limit : Option R) (heap heap' extract extract' out out' : List R) : Type 0 where
    pub count : length out' + length heap' + length extract' ≡ length out + length heap + length extract
    pub fewer : length extract' ≤ length extract
    pub ascends : Ascends cmp extract → Ascends cmp extract'
    pub order : (runs : List R) → NoneAfter cmp extract runs → NoneAfter cmp extract' runs
    pub taken : (bag runs : List R) → (more ≡ false → runs ≡ []) → Ascends cmp extract → NoneAfter cmp extract runs → IsTaken cmp bag out (heap ++ extract ++ runs) → IsTaken cmp bag out' (heap' ++ extract' ++ runs)
    pub under : AllBelow cmp limit out → AllBelow cmp limit out'

  -- the same of heaps, an extract buffer and a list, all of which keep their room
  pub record Moves (more : Bool) (limit : Option R) (before after : Shares R) (extract extract' : Held R) (out out' : Listed R) : Type 0 where
    pub merged : Merged more limit (items_of before) (items_of after) extract.items extract'.items out.items out'.items
    pub heaps : HeapsStay before after
    pub rooms : RoomsStay extract extract' out out'

  -- nothing that is wanted is left
  pub record Exhausted (more : Bool) (limit : Option R) (heap extract : List R) : Type 0 where
    pub whole : extract ≡ [] → more ≡ false
    pub all : limit ≡ None → heap ++ extract ≡ []
    pub low : Ascends cmp extract → NoneBelow cmp limit (heap ++ extract)

  -- The smallest record of heaps and an extract buffer went to the end of a list, and the answer says whether one did; if none did, nothing that is
  -- wanted is left
  pub record MovesNext (more : Bool) (limit : Option R) (before after : Shares R) (extract extract' : Held R) (out out' : Listed R) (answer : Bool) : Type 0 where
    pub moves : Moves more limit before after extract extract' out out'
    pub one : answer ≡ true → length out'.items ≡ length out.items + 1
    pub none : answer ≡ false → length out'.items ≡ length out.items
    pub ended : answer ≡ false → Exhausted more limit (items_of after) extract'.items

  -- a record of an extract buffer goes before the smallest one of heaps, and it is below the limit
  abbrev pub GoesOut : (latest limit : Option R) → R → Type 0
  GoesOut latest limit x = (goes_first cmp latest (Some x) ≡ false) × AllBelow cmp limit (x ∷ [])

  -- the first records of a list, so many, all of which go out, were copied to the end of another, at most so many in it
  pub record CopiesFirst (most count : ℕ) (latest limit : Option R) (rest : List R) (out out' : Listed R) : Type 0 where
    pub within : count ≤ length rest
    pub few : length out'.items ≤ most
    pub first : Each (GoesOut latest limit) (take count rest)
    pub list : out' ≡ listed (out.items ++ take count rest) out.room

  -- The smallest records of heaps and an extract buffer went to the end of a list, at most so many in it, and the answer says whether one did; if none
  -- did, nothing that is wanted is left
  pub record MovesSome (most : ℕ) (more : Bool) (limit : Option R) (before after : Shares R) (extract extract' : Held R) (out out' : Listed R) (answer : Bool) : Type 0 where
    pub moves : Moves more limit before after extract extract' out out'
    pub few : length out'.items ≤ most
    pub some : answer ≡ true → length out.items < length out'.items
    pub ended : answer ≡ false → Exhausted more limit (items_of after) extract'.items

  -- the list is full; or the extract buffer wants a refill; or nothing that is wanted is left
  abbrev pub HasEnded : (most : ℕ) (more : Bool) (limit : Option R) (heap extract out : List R) → Type 0
  HasEnded most more limit heap extract out = (length out ≡ most) ⊎ ((extract ≡ []) × (more ≡ true)) ⊎ Exhausted more limit heap extract

  -- as many records went to the end of a list as could be, at most so many in it
  pub record MergesTo (most : ℕ) (more : Bool) (limit : Option R) (before after : Shares R) (extract extract' : Held R) (out out' : Listed R) : Type 0 where
    pub moves : Moves more limit before after extract extract' out out'
    pub few : length out'.items ≤ most
    pub ended : HasEnded most more limit (items_of after) extract'.items out'.items

  -- The smallest records of a queue were taken, at most so many, all below the limit, if there is one. With a limit the extract buffer is ready for
  -- a look at the least record that is left
  pub record TookFront (limit : Option R) (most : ℕ) (old new : Holding R) (out : List R) : Type 0 where
    pub front : AllTell old.slots → out ≡ front cmp old.bag (wanted cmp most limit old.bag)
    pub rest : AllTell old.slots → IsSameBag new.bag (without_front cmp old.bag (wanted cmp most limit old.bag))
    pub left : AllTell old.slots → (length out ≡ most) ⊎ NoneBelow cmp limit new.bag
    pub ready : (l : R) → limit ≡ Some l → new.in_extract ≡ 0 → new.size ≡ new.in_heap
    pub few : length out ≤ most
    pub within : length out ≤ old.size
    pub count : limit ≡ None → length out ≡ min most old.size
    pub sound : new.failed ≡ None
    pub quiet : AreQuiet old.slots new.slots

  -- What a bulk pop leaves of a queue and of its list: the smallest records were taken if it is Ok; none is returned if it is not; where no run has a
  -- record, no slot and no run has changed; where no block was free, a level has more than 8 runs, and fewer slots are free than a merge of it may want;
  -- what else a refusal means; the queue counts as many fewer as are in the list; and what stays whatever is returned, its three numbers among it
  pub record BulkLeaves {T : Type 0} (limit : Option R) (most : ℕ) (old new : Holding R) (was now : Listed R) (r : Result T StoreFault) : Type 0 where
    pub took : OnOk r (TookFront limit most old new now.items)
    pub emptied : OnErr r (now.items ≡ [])
    pub easy : old.failed ≡ None → old.size ≡ old.in_heap + old.in_extract → IsOk r × (new ≡ record old { bag = new.bag; size = new.size; in_heap = new.in_heap; in_first = new.in_first; in_extract = new.in_extract })
    pub crowded : IsErrOf r NoFreeBlock → 8 < new.crowd
    pub scant : IsErrOf r NoFreeBlock → new.free < 8 + new.sizes.workers
    pub refused : IfErr r (IsRefusal old new)
    pub latched : NamesAgain old new r
    pub size : new.size ≡ old.size - length now.items
    pub list_room : now.room ≡ was.room
    pub peak : new.peak ≡ old.peak
    pub counted : CountsAs old.counts old new
    pub keeps : Keeps old new

module _ {S R : Type 0} (shown : S → Shown) (cmp : R → R → Ordering) (record_of : List ℕ → R) (width : ℕ) where
  -- Out of heaps and a store the smallest records were taken, at most so many, all below the limit, if there is one. The store may work on
  pub record TookOut (limit : Option R) (most : ℕ) (heap heap' : List R) (old new : Store S R) (out : List R) : Type 0 where
    pub works : MayWork shown cmp record_of width new
    pub quiet : AreQuiet (slots_in shown old) (slots_in shown new)
    pub few : length out ≤ most
    pub count : length out + length heap' + stored new ≡ length heap + stored old
    pub fewer : stored new ≤ stored old
    pub taken : AllTell (slots_in shown old) → IsTaken cmp (whole_bag shown cmp record_of width heap old) out (whole_bag shown cmp record_of width heap' new)
    pub under : AllTell (slots_in shown old) → AllBelow cmp limit out

  -- All that was wanted was taken: as many as could be, or nothing that is wanted is left. With a limit the extract buffer is ready for a look
  -- at the smallest record that is left
  pub record TookAll (limit : Option R) (most : ℕ) (heap heap' : List R) (old new : Store S R) (out : List R) : Type 0 where
    pub took : TookOut limit most heap heap' old new out
    pub all : limit ≡ None → (length out ≡ most) ⊎ (length heap' + stored new ≡ 0)
    pub low : AllTell (slots_in shown new) → (length out ≡ most) ⊎ NoneBelow cmp limit (whole_bag shown cmp record_of width heap' new)
    pub ready : (l : R) → limit ≡ Some l → new.extract.items ≡ [] → count_of new.body ≡ 0

  -- what a bulk pop leaves of heaps and the store: what stays whatever is returned; all that was wanted was taken if it is Ok; what a refusal means, and
  -- that the heaps are as they were where no block was free, and a level is crowded; where no run has a record, nothing is done but to the
  -- heaps and the extract buffer; and it costs nothing
  pub record TakesOut {T : Type 0} (limit : Option R) (most : ℕ) (before after : Shares R) (old new : Store S R) (was now : Listed R) (r : Result T StoreFault) : Type 0 where
    pub kept : StoreKept shown old new
    pub heaps : HeapsStay before after
    pub list_room : now.room ≡ was.room
    pub took : OnOk r (TookAll limit most (items_of before) (items_of after) old new now.items)
    pub same_heaps : IsErrOf r NoFreeBlock → after ≡ before
    pub easy : count_of old.body ≡ 0 → IsOk r × (new ≡ record old { extract = new.extract })
    pub crowded : IsErrOf r NoFreeBlock → IsCrowded new
    pub refused : IfErr r (Refuses shown cmp record_of width [] [] old new)
    pub pays : Pays r 0 0 (store_account shown old) (store_account shown new)
