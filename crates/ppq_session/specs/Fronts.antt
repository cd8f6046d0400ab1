-- What contracts see of a front, and what its calls take of it.
use Rattle.std.specs.Prelude.{◌≡◌, ◌++◌, ◌+◌, ◌*◌, ◌≤◌, ℕ, min, List, length, Option, Some, None}
use Rattle.std.specs.declared.cmp.Ordering.{Ordering}
use Rattle.atomic_table.specs.Seated.{TableId}
use Rattle.ppq_pass.specs.ppq_record.Bag.{IsSameBag, first_of, front, without_front, size_below}
use Rattle.ppq_pass.specs.ppq_outside.Shown.{Shown, AllTell}
use Rattle.ppq_pass.specs.ppq_budget.Sizes.{Numbers}
use Rattle.ppq_pass.specs.ppq_array.Kept.{SameSlots, HasFailed, AreQuiet, all_writes}
use Rattle.ppq_pass.specs.ppq_counts.Tally.{Tally}
use Rattle.ppq_pass.specs.ppq_array.declared.berth.DeviceBlock.{DeviceBlock}
use Rattle.ppq_pass.specs.ppq_array.Owner.{slots_shown}
use Rattle.ppq_pass.specs.ppq_fetch.Taking.{NoneBelow}
use Rattle.ppq_pass.specs.ppq_array.declared.store_fault.StoreFault.{StoreFault as QueueFault}
use Rattle.ppq_pass.specs.ppq_array.declared.store_fault.StoreFault.TheVariants.{NoFreeBlock, Device}

-- The multiset of its records, as far as its slots tell, and the limit; how many records it counts, and how many it gave; its sizes; the greatest
-- size of the queue when the session began; all slots, those of its runs, those that it freed and those that were put into the row; how many
-- buffers of a block it has, idle ones too, and how many of them its runs in buffers; how many records its extract buffer has; the row with the
-- slots that were put into it, and the pool; the number of the slot a call of which failed first, if any; and how many records, stores of a full
-- heap and sessions the queue counts
pub record FrontHolding (S R : Type 0) : Type 0 where
  pub bag : List R
  pub limit : R
  pub size : ℕ
  pub popped : ℕ
  pub sizes : Numbers
  pub peak : ℕ
  pub slots : List Shown
  pub buffers : ℕ
  pub run_buffers : ℕ
  pub in_extract : ℕ
  pub row : TableId
  pub items : List (DeviceBlock S R)
  pub pool : TableId
  pub failed : Option ℕ
  pub counts : Tally

module _ {R : Type 0} (cmp : R → R → Ordering) (limit : R) where
  -- the smallest record of a multiset that is below the limit, and none where none is below it
  abbrev pub least_below : List R → Option R
  least_below bag = first_of (front cmp bag (min 1 (size_below cmp bag limit)))

  -- the multiset without that record
  abbrev pub without_least_below : List R → List R
  without_least_below bag = without_front cmp bag (min 1 (size_below cmp bag limit))

  -- Other records stand back beside a multiset: of all together the smallest record below the limit is that of the multiset, without it the others stay,
  -- and as many are below the limit as are in the multiset
  pub record StandBack (bag others : List R) : Type 0 where
    pub least : least_below (bag ++ others) ≡ least_below bag
    pub left : IsSameBag (without_least_below (bag ++ others)) (without_least_below bag ++ others)
    pub size : size_below cmp (bag ++ others) limit ≡ size_below cmp bag limit

-- records that are not below a limit stand back beside any multiset
abbrev pub HighStandBack : {R : Type 0} → (R → R → Ordering) → Type 0
HighStandBack {R} cmp = (limit : R) (bag others : List R) → NoneBelow cmp (Some limit) others → StandBack cmp limit bag others

-- how many records an answer has
abbrev pub number_in : {R : Type 0} → Option R → ℕ
number_in None = 0
number_in (Some r) = 1

module _ {S R : Type 0} where
  -- the extract buffer is empty only if no record below the limit is left, where slots tell
  abbrev pub IsReady : (R → R → Ordering) → FrontHolding S R → Type 0
  IsReady cmp front = front.in_extract ≡ 0 → AllTell front.slots → NoneBelow cmp (Some front.limit) front.bag

  -- The row had each block that was free when the session began: of all blocks of the device those were put into it that no run had. The others were
  -- full of the records that the front has or gave, but for 65 in all, and no record was anywhere else: they and the buffers have room for all. What
  -- the front frees stays among the others
  pub record RowHadFree (shown : S → Shown) (front : FrontHolding S R) : Type 0 where
    pub others : List Shown
    pub all : front.slots ≡ others ++ slots_shown shown front.items
    pub filled : length others * front.sizes.block ≤ front.size + front.popped + 65 * front.sizes.block
    pub enough : front.size + front.popped ≤ (length others + front.buffers) * front.sizes.block

  -- A call of the slot with this number failed, now or before, and the front keeps that number. It counts the records that it counted, and none
  -- was popped
  pub record FrontStopped (number : ℕ) (old new : FrontHolding S R) : Type 0 where
    pub fault : HasFailed number new.slots
    pub kept : new.failed ≡ Some number
    pub size : new.size ≡ old.size
    pub popped : new.popped ≡ old.popped

  -- why a call of a front was refused, and what it left; no front wants a free block
  abbrev pub IsFrontRefusal : FrontHolding S R → FrontHolding S R → QueueFault → Type 0
  IsFrontRefusal old new NoFreeBlock = ⊥
  IsFrontRefusal old new (Device number) = FrontStopped number old new

  -- a front is ready to give its smallest record: it has what it had, and no call of a slot failed
  pub record IsReadied (cmp : R → R → Ordering) (old new : FrontHolding S R) : Type 0 where
    pub bag : AllTell old.slots → IsSameBag new.bag old.bag
    pub ready : IsReady cmp new
    pub sound : new.failed ≡ None
    pub quiet : AreQuiet old.slots new.slots

  -- what stays of a front whose extract buffer was to be refilled, whatever it met
  pub record RefillKeeps (old new : FrontHolding S R) : Type 0 where
    pub slots : SameSlots old.slots new.slots
    pub tells : AllTell old.slots → AllTell new.slots
    pub writes : all_writes old.slots ≤ all_writes new.slots
    pub rest : new ≡ record old { bag = new.bag; slots = new.slots; run_buffers = new.run_buffers; in_extract = new.in_extract; failed = new.failed }

  -- its smallest record below the limit was taken out, if there is one
  pub record TakesLeast (cmp : R → R → Ordering) (answer : Option R) (old new : FrontHolding S R) : Type 0 where
    pub answer_is : AllTell old.slots → answer ≡ least_below cmp old.limit old.bag
    pub left : AllTell old.slots → IsSameBag new.bag (without_least_below cmp old.limit old.bag)
    pub popped : new.popped ≡ old.popped + number_in answer
    pub total : new.size + new.popped ≡ old.size + old.popped
    pub rest : new ≡ record old { bag = new.bag; in_extract = new.in_extract; size = new.size; popped = new.popped }
