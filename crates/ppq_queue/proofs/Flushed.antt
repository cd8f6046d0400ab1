-- A queue whose runs moved, and what a refusal says of it.
use Rattle.std.proofs.Common.{◌≡◌, ℕ, ◌+◌, ◌*◌, ◌<◌, ◌≤◌, List, [], length, max, true, Bool, Option, None, Some, refl, ap, sym, ◌∙◌, subst, arith}
use Rattle.std.specs.Prelude.{Result, Ok, Err}
use Rattle.std.specs.declared.cmp.Ordering.{Ordering}
use Rattle.ppq_extract.specs.ppq_outside.Shown.{Shown, AllTell}
use Rattle.ppq_extract.specs.ppq_budget.Sizes.{Numbers, AreInRange, heaps_of, batch_of, blocks_for, room_of}
use Rattle.ppq_heap.specs.Heaps.{Shares, items_of}
use Rattle.ppq_extract.specs.ppq_array.Supply.{Stock}
use Rattle.ppq_extract.specs.ppq_array.Kept.{HasFailed, SameSlots, all_writes}
use Rattle.ppq_extract.specs.ppq_fetch.Taking.{NoneAfter}
use Rattle.ppq_extract.specs.Extracted.{Held}
use Rattle.ppq_extract.specs.declared.sources.Sources.{Sources}
use Rattle.ppq_heap.specs.ppq_record.Order.{Ascends}
use Rattle.ppq_spill.specs.declared.body.PassBody.{PassBody}
use Rattle.ppq_queue.specs.Resting.{BodyKept, AtRest, IsShort, slots_of, count_of, runs_bag}
use Rattle.ppq_queue.specs.State.{IsQueue, IsSound}
use Rattle.ppq_queue.specs.Holding.{Holding, IsAbove, IsRefusal, Keeps, Stays, SameRecords, QueueLeaves}
use Rattle.ppq_extract.specs.ppq_array.declared.store_fault.StoreFault.{StoreFault}
use Rattle.ppq_extract.specs.ppq_array.declared.store_fault.StoreFault.TheVariants.{NoFreeBlock, Device}
use Rattle.ppq_spill.proofs.SameSlots.{SameSlots-refl, SameSlots-trans}
use Rattle.ppq_queue.proofs.Bounds.{room_short, free_short}
use Rattle.ppq_queue.proofs.Moves.{kept-refl}

module _ {S R : Type 0} {shown : S → Shown} {n : Numbers} where
  -- a queue whose parts and counts changed
  pub queue-moved :
      {h h' : Shares R} {x x' : Held R} {a b : PassBody S R} {s t : Stock} {count count' peak peak' : ℕ} {failed failed' : Option ℕ}
      → IsQueue shown n h x a s count peak failed → BodyKept shown a b s t → t.drawn ≡ [] → h'.cap ≡ h.cap → length h'.heaps ≡ length h.heaps → length (items_of h') ≤ heaps_of n → x'.room ≡ x.room → length x'.items ≤ batch_of n
      → count' ≤ peak' → peak' ≤ n.memory + n.block * n.blocks + 1 → count' ≤ n.memory + n.block * n.blocks → ((number : ℕ) → failed' ≡ Some number → HasFailed number (slots_of shown b t))
      → IsQueue shown n h' x' b t count' peak' failed'
  queue-moved is kept no_row cap heaps in_heap room within counted most most_count fault =
      record {
        range = is.range;
        budget = is.budget;
        cap = cap ∙ is.cap;
        shares = heaps ∙ is.shares;
        in_heap = in_heap;
        room = room ∙ is.room;
        in_extract = within;
        held = omega (arith, kept.held, is.held);
        pool = kept.all_buffers ∙ is.pool;
        slots = kept.slots.length ∙ is.slots;
        overreads = omega (arith, kept.slots.overreads, is.overreads);
        no_row = no_row;
        counted = counted;
        most = most;
        most_count = most_count;
        fault = fault;
      }

  -- a queue whose heaps, extract buffer and counts changed
  pub queue-counts :
      {h h' : Shares R} {x x' : Held R} {a : PassBody S R} {s : Stock} {count count' peak peak' : ℕ} {failed : Option ℕ}
      → IsQueue shown n h x a s count peak failed → h'.cap ≡ h.cap → length h'.heaps ≡ length h.heaps → length (items_of h') ≤ heaps_of n → x'.room ≡ x.room → length x'.items ≤ batch_of n
      → count' ≤ peak' → peak' ≤ n.memory + n.block * n.blocks + 1 → count' ≤ n.memory + n.block * n.blocks
      → IsQueue shown n h' x' a s count' peak' failed
  queue-counts {a = a} {s = s} is cap heaps in_heap room within counted most most_count = queue-moved is (kept-refl shown a s) is.no_row cap heaps in_heap room within counted most most_count is.fault

  -- a sound queue, likewise
  pub sound-counts :
      {cmp : R → R → Ordering} {record_of : List ℕ → R} {width : ℕ} {h h' : Shares R} {x x' : Held R} {a : PassBody S R} {s : Stock} {src : Sources R} {count count' peak peak' : ℕ} {limited limited' : Bool}
      → IsSound shown cmp record_of width n h x a s src count peak limited → count' ≡ length (items_of h') + length x'.items + count_of a
      → (AllTell (slots_of shown a s) → Ascends cmp x'.items) → (AllTell (slots_of shown a s) → NoneAfter cmp x'.items (runs_bag shown record_of width a)) → (length (items_of h') < count' → IsAbove n peak' limited')
      → IsSound shown cmp record_of width n h' x' a s src count' peak' limited'
  sound-counts sound counted ascends order above = record { rest = sound.rest; counted = counted; ascends = ascends; order = order; above = above; workers = sound.workers; serves = sound.serves }

module _ {S R : Type 0} (shown : S → Shown) (n : Numbers) where
  -- a fault that was counted stays
  pub fault-kept : (a b : PassBody S R) (s t : Stock) (failed : Option ℕ) → BodyKept shown a b s t → ((number : ℕ) → failed ≡ Some number → HasFailed number (slots_of shown a s)) → (number : ℕ) → failed ≡ Some number → HasFailed number (slots_of shown b t)
  fault-kept a b s t failed kept fault number e = omega (arith, fault number e, kept.slots.faults number)

  pub queue-kept :
      (h h' : Shares R) (x x' : Held R) (a b : PassBody S R) (s t : Stock) (count peak : ℕ) (failed failed' : Option ℕ)
      → IsQueue shown n h x a s count peak failed → BodyKept shown a b s t → t.drawn ≡ [] → h'.cap ≡ h.cap → length h'.heaps ≡ length h.heaps → length (items_of h') ≤ length (items_of h) → x'.room ≡ x.room → length x'.items ≤ batch_of n
      → ((number : ℕ) → failed' ≡ Some number → HasFailed number (slots_of shown b t))
      → IsQueue shown n h' x' b t count peak failed'
  queue-kept h h' x x' a b s t count peak failed failed' is kept no_row cap heaps fewer room within fault = queue-moved is kept no_row cap heaps (omega (arith, fewer, is.in_heap)) room within is.counted is.most is.most_count fault

  module _ (cmp : R → R → Ordering) (record_of : List ℕ → R) (width : ℕ) where
    -- what too few free slots say
    pub short-bounds :
        (b : PassBody S R) (t : Stock) (count peak : ℕ)
        → AtRest shown cmp record_of width n b t → AreInRange n → length (slots_of shown b t) ≡ n.blocks → count_of b ≤ count → count ≤ peak → IsShort n (length t.kept) count
        → (length t.kept < max (8 + n.workers) (blocks_for n count)) × (n.blocks < room_of n peak)
    short-bounds b t count peak rest range all some most short =
        (free_short shown cmp record_of width n b t range count (length t.kept) short, room_short shown cmp record_of width n b t rest range all count peak some most short)

-- the slot that is kept as failed is that one
pub device-fault : (slots : List Shown) (number k : ℕ) → HasFailed number slots → ◌≡◌ {A = Option ℕ} (Some number) (Some k) → HasFailed k slots
device-fault slots number k fault e =
    let same : number ≡ k = cc in
    subst (λ m. HasFailed m slots) same fault

pub not_sound : {P : Type 0} (number : ℕ) → ◌≡◌ {A = Option ℕ} (Some number) None → P
not_sound number e = absurd (cc)

fault_again : (T : Type 0) (n k : ℕ) → ◌≡◌ {A = Option ℕ} (Some n) (Some k) → ◌≡◌ {A = Result T StoreFault} (Err (Device n)) (Err (Device k))
fault_again T n k e = (let same : n ≡ k = cc in subst (λ m. ◌≡◌ {A = Result T StoreFault} (Err (Device n)) (Err (Device m))) same refl)

-- a refusal after a limit session was noted is one of the whole call
pub refusal-limited : {R : Type 0} (old new : Holding R) (fault : StoreFault) → IsRefusal (record old { limited = true }) new fault → IsRefusal old new fault
refusal-limited old new NoFreeBlock is = record { bag = is.bag; size = is.size; sound = is.sound; quiet = is.quiet; free = is.free; room = is.room; above = is.above }
refusal-limited old new (Device number) is = record { fault = is.fault; kept = is.kept; size = is.size }

pub same-limited : {R : Type 0} (old new : Holding R) → SameRecords (record old { limited = true }) new → SameRecords old new
same-limited old new is = record { quiet = is.quiet; bag = is.bag; size = is.size; sound = is.sound }

-- so is one after the peak was raised
pub refusal-raised : {R : Type 0} (old new : Holding R) (peak : ℕ) (fault : StoreFault) → IsRefusal (record old { peak = peak }) new fault → IsRefusal old new fault
refusal-raised old new peak NoFreeBlock is = record { bag = is.bag; size = is.size; sound = is.sound; quiet = is.quiet; free = is.free; room = is.room; above = is.above }
refusal-raised old new peak (Device number) is = record { fault = is.fault; kept = is.kept; size = is.size }

module _ {R : Type 0} where
  -- what stays where only records came or went
  pub keeps-slots : (old new : Holding R) → new.sizes ≡ old.sizes → new.limited ≡ old.limited → new.slots ≡ old.slots → Keeps old new
  keeps-slots old new sizes limited same =
      record {
        sizes = sizes;
        limited = limited;
        slots = subst (SameSlots old.slots) (sym same) (SameSlots-refl old.slots);
        tells = subst AllTell (sym same);
        writes = omega (arith, ap all_writes same);
      }

  stays-same : (q : Holding R) → Stays q q
  stays-same q = record { keeps = keeps-slots q q refl refl refl; size = refl; peak = refl }

  -- a sound queue to which nothing was done
  pub leaves-same : {T : Type 0} {v : T} (q : Holding R) → q.failed ≡ None → QueueLeaves q q (Ok v)
  leaves-same q none = record { same = record { quiet = refl; bag = λ tell p. refl; size = refl; sound = none }; refused = tt; latched = λ number e. not_sound number (sym e ∙ none); stays = stays-same q }

  -- a queue that a failed block stopped
  pub leaves-stopped : {T : Type 0} (q : Holding R) (number : ℕ) → q.failed ≡ Some number → HasFailed number q.slots → QueueLeaves {T = T} q q (Err (Device number))
  leaves-stopped {T = T} q number failed fault = record { same = tt; refused = record { fault = fault; kept = failed; size = refl }; latched = λ k e. (fault_again T number k (sym failed ∙ e), refl); stays = stays-same q }

  pub keeps-more : (a b c : Holding R) → Keeps a b → Keeps b c → Keeps a c
  keeps-more a b c h k =
      record {
        sizes = k.sizes ∙ h.sizes;
        limited = k.limited ∙ h.limited;
        slots = SameSlots-trans a.slots b.slots c.slots h.slots k.slots;
        tells = λ tell. k.tells (h.tells tell);
        writes = omega (arith, h.writes, k.writes);
      }

  pub stays-more : (a b c : Holding R) → Stays a b → Stays b c → Stays a c
  stays-more a b c h k = record { keeps = keeps-more a b c h.keeps k.keeps; size = k.size ∙ h.size; peak = k.peak ∙ h.peak }
