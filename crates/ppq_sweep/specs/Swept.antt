-- What a sweep prints, how far it is, and what it leaves.
use Rattle.std.specs.Prelude.{◌≡◌, ◌⊎◌, ℕ, ◌≤◌, List, [], Option, Result, Ok, Err, ⊤}
use Rattle.ppq_queue.specs.ppq_heap.ppq_record.declared.pair.Pair.{Pair}
use Rattle.ppq_queue.specs.ppq_heap.ppq_record.Bag.{IsSameBag}
use Rattle.ppq_text.specs.ppq_outside.Told.{Rose, TakesAll, TakesPart}
use Rattle.ppq_text.specs.Gathering.{Gathers}
use Rattle.ppq_sweep.specs.Levels.{level, sweep_text}
use Rattle.ppq_sweep.specs.Notes.{left, waiting}
use Rattle.ppq_sweep.specs.declared.fault.SweepFault.{SweepFault}
use Rattle.ppq_sweep.specs.declared.fault.SweepFault.TheVariants.{Write, Queue}

-- where the count of a sink's faults stands after a step of a sweep: it rose only if the sink stopped it
abbrev pub SinkAfter : {T : Type 0} → ℕ → ℕ → Result T SweepFault → Type 0
SinkAfter before now (Ok value) = now ≡ before
SinkAfter before now (Err Write) = Rose before now
SinkAfter before now (Err (Queue fault)) = now ≡ before

-- The sink failed, and took a part of what was gathered before a line; or a queue stopped the sweep, before the line was gathered or after it
abbrev pub StopsAtLine : (told told' : Option (List ℕ)) → (had line has : List ℕ) → SweepFault → Type 0
StopsAtLine told told' had line has Write = TakesPart told told' had
StopsAtLine told told' had line has (Queue fault) = Gathers told told' had [] has ⊎ Gathers told told' had line has

-- the nodes below this one came up: what both queues hold now, and what was gathered
pub record HasSwept (node : ℕ) (told told' : Option (List ℕ)) (all edges notes : List Pair) (has : List ℕ) : Type 0 where
  pub edges_are : IsSameBag edges (left node all)
  pub notes_are : IsSameBag notes (waiting (level all) node all)
  pub text : Gathers told told' [] (sweep_text all node) has

-- the lines of some first nodes were gathered
abbrev pub GathersFirst : ℕ → (told told' : Option (List ℕ)) → List Pair → List ℕ → Type 0
GathersFirst nodes told told' edges has = (v : ℕ) × (v ≤ nodes) × Gathers told told' [] (sweep_text edges v) has

-- what a fault leaves: a part of the lines was written; or if a queue stopped the sweep, those of some first nodes were gathered
abbrev pub StopsSweep : ℕ → (told told' : Option (List ℕ)) → List Pair → List ℕ → SweepFault → Type 0
StopsSweep nodes told told' edges has Write = TakesPart told told' (sweep_text edges nodes)
StopsSweep nodes told told' edges has (Queue fault) = GathersFirst nodes told told' edges has

-- if a queue stopped a sweep, the lines of some first nodes were written, each of them whole
abbrev pub StopsByQueue : ℕ → (told told' : Option (List ℕ)) → List Pair → SweepFault → Type 0
StopsByQueue nodes told told' edges Write = ⊤
StopsByQueue nodes told told' edges (Queue fault) = (v : ℕ) × (v ≤ nodes) × TakesAll told told' (sweep_text edges v)

-- what was gathered was written and what there was to answer is returned; or the sink failed, and took a part of it
abbrev pub PutsRest : {T : Type 0} → (told told' : Option (List ℕ)) → ℕ → ℕ → List ℕ → Result T SweepFault → Result T SweepFault → Type 0
PutsRest told told' faults faults' has answer result = ((result ≡ answer) × TakesAll told told' has × (faults' ≡ faults)) ⊎ ((result ≡ Err Write) × TakesPart told told' has × Rose faults faults')

-- what was gathered was written at the end of a sweep; nothing if the sink had failed
abbrev pub FinishesBy : {T : Type 0} → (told told' : Option (List ℕ)) → ℕ → ℕ → List ℕ → Result T SweepFault → Result T SweepFault → Type 0
FinishesBy told told' faults faults' has (Ok value) result = PutsRest told told' faults faults' has (Ok value) result
FinishesBy told told' faults faults' has (Err (Queue fault)) result = PutsRest told told' faults faults' has (Err (Queue fault)) result
FinishesBy told told' faults faults' has (Err Write) result = (result ≡ Err Write) × (told' ≡ told) × (faults' ≡ faults)
