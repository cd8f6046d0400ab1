-- How the edges of a file come into a queue.
use Rattle.std.specs.Prelude.{◌≡◌, ◌+◌, ◌*◌, ℕ, List, [], ◌++◌, length, max, All, Option, Some, None, Result, Ok, Err}
use Rattle.ppq_sweep.specs.ppq_record.declared.pair.Pair.{Pair}
use Rattle.ppq_sweep.specs.ppq_record.Pair.{pair_of}
use Rattle.ppq_sweep.specs.ppq_record.Bag.{IsSameBag}
use Rattle.ppq_sweep.specs.ppq_outside.Told.{Reply}
use Rattle.ppq_sweep.specs.ppq_queue.Shown.{Shown, AllTell}
use Rattle.ppq_sweep.specs.ppq_queue.Kept.{AreQuiet}
use Rattle.ppq_sweep.specs.ppq_queue.Holding.{Holding}
use Rattle.ppq_engine.specs.ppq_load.Given.{records_of}
use Rattle.ppq_engine.specs.ppq_load.Loading.{SessionHolding, InSession, HasGiven, HasGivenSome, IsReadRefusal, LoadStopsFor, LoadEndsIn, LoadLeaves, loaded_of}
use Rattle.ppq_engine.specs.ppq_load.ppq_session.Dealing.{IsGoing}
use Rattle.ppq_engine.specs.ppq_load.declared.fault.LoadFault.{LoadFault}
use Rattle.ppq_engine.specs.ppq_array.declared.store_fault.StoreFault.{StoreFault as QueueFault}
use Rattle.ppq_jobs.specs.Edges.{Wanted, edge_count, OfEdges, first_bad, AreFirstBytes, FindsBad, FindsNone}

-- the first records of the file, so many, were looked at, and each is an edge
pub record HasLooked (told : Option (List ℕ → Option (List ℕ))) (replied : Reply → Type 0) (wanted : Wanted) (count : ℕ) : Type 0 where
  pub bytes : List ℕ
  pub first : AreFirstBytes told replied wanted bytes
  pub long : length bytes ≡ count * 16
  pub good : first_bad wanted.nodes (records_of pair_of 16 bytes) ≡ None

-- A file was read, looked at and dealt to the passes of a session that has just begun: all its records if none is bad, or if a pass stopped;
-- and else some of its first ones
abbrev pub DealsAll : {S : Type 0} → (S → Shown) → Option (List ℕ → Option (List ℕ)) → (Reply → Type 0) → Wanted → SessionHolding S Pair → SessionHolding S Pair → Result (Option ℕ) LoadFault → Type 0
DealsAll shown told replied wanted old new (Ok None) =
    ((queue : Holding Pair) → InSession shown queue [] old → HasGiven pair_of 16 shown queue told wanted.name (edge_count wanted) new) × (All IsGoing new.passes → FindsNone told replied wanted)
DealsAll shown told replied wanted old new (Ok (Some at)) = FindsBad told replied wanted at
DealsAll shown told replied wanted old new (Err fault) = IsReadRefusal told replied wanted.name wanted.bytes fault

pub record DealsEdges {S : Type 0} (shown : S → Shown) (told : Option (List ℕ → Option (List ℕ))) (replied : Reply → Type 0) (wanted : Wanted) (old new : SessionHolding S Pair) (result : Result (Option ℕ) LoadFault) : Type 0 where
  pub all : DealsAll shown told replied wanted old new result
  pub some : (queue : Holding Pair) → InSession shown queue [] old → HasGivenSome pair_of 16 shown queue told wanted.name (edge_count wanted) new

-- a fault of reading stays the fault, and a record that is no edge the answer, whatever the end of the session says
abbrev pub with_none : {T : Type 0} → Result T LoadFault → Result (Option ℕ) LoadFault
with_none (Ok value) = Ok None
with_none (Err fault) = Err fault

abbrev pub answer_of : {T : Type 0} → Result (Option ℕ) LoadFault → Result T QueueFault → Result (Option ℕ) LoadFault
answer_of (Ok None) ended = with_none (loaded_of ended)
answer_of (Ok (Some at)) ended = Ok (Some at)
answer_of (Err fault) ended = Err fault

-- the edges of the file were added to a queue, each record of it is one, and no call of a block failed
pub record HasLoadedEdges (told : Option (List ℕ → Option (List ℕ))) (replied : Reply → Type 0) (wanted : Wanted) (old new : Holding Pair) : Type 0 where
  pub good : FindsNone told replied wanted
  pub bag : AllTell old.slots → OfEdges told wanted (λ edges. IsSameBag new.bag (edges ++ old.bag))
  pub size : new.size ≡ old.size + edge_count wanted
  pub sound : new.failed ≡ None
  pub quiet : AreQuiet old.slots new.slots
  pub peak : new.peak ≡ max old.peak (old.size + edge_count wanted)

-- why edges were not loaded
pub record RefusesEdges (told : Option (List ℕ → Option (List ℕ))) (replied : Reply → Type 0) (wanted : Wanted) (old new : Holding Pair) (fault : LoadFault) : Type 0 where
  pub stops : LoadStopsFor (max old.peak (old.size + edge_count wanted)) old.sizes old.limited new.slots fault
  pub ended : LoadEndsIn told replied wanted.name wanted.bytes fault
  pub left : LoadLeaves old new (edge_count wanted) fault

-- the edges were loaded; or one record is bad, the first one with this number; or they were not loaded, and the fault says why
abbrev pub LoadsEdges : Option (List ℕ → Option (List ℕ)) → (Reply → Type 0) → Wanted → Holding Pair → Holding Pair → Result (Option ℕ) LoadFault → Type 0
LoadsEdges told replied wanted old new (Ok None) = HasLoadedEdges told replied wanted old new
LoadsEdges told replied wanted old new (Ok (Some at)) = FindsBad told replied wanted at
LoadsEdges told replied wanted old new (Err fault) = RefusesEdges told replied wanted old new fault
