-- The end of a sweep: what was gathered is written, whatever stopped it but the sink.
use Rattle.std.proofs.Common.{◌≡◌, ℕ, List, [], Option, sym, subst, inl, inr, ◌∙◌, arith}
use Rattle.std.specs.Prelude.{Result, Ok, Err, OnOk, IfErr}
use Rattle.ppq_queue.specs.ppq_heap.ppq_record.declared.pair.Pair.{Pair}
use Rattle.ppq_queue.specs.Holding.{Holding}
use Rattle.ppq_text.specs.ppq_outside.Told.{TakesAll, TakesPart}
use Rattle.ppq_queue.proofs.ppq_outside.Takes.{all_is_part}
use Rattle.ppq_sweep.specs.Levels.{AreEdges, sweep_text}
use Rattle.ppq_sweep.specs.Queues.{QueuesAfter}
use Rattle.ppq_sweep.specs.Swept.{SinkAfter, HasSwept, StopsSweep, StopsByQueue, FinishesBy}
use Rattle.ppq_sweep.specs.declared.fault.SweepFault.{SweepFault}
use Rattle.ppq_sweep.specs.declared.fault.SweepFault.TheVariants.{Write, Queue}
use Rattle.ppq_sweep.proofs.Served.{queues_unwritten}
use Rattle.ppq_sweep.proofs.Gathered.{all_gathered, part_gathered, first_lines}
use Rattle.ppq_sweep.proofs.Visited.{none_after}

-- what a sweep of these edges leaves, where two things hold of the queues
pub record Leaves {T : Type 0} (A B : Type 0) (nodes : ℕ) (all : List Pair) (edges edges' notes notes' : Holding Pair) (told told' : Option (List ℕ)) (faults faults' : ℕ) (result : Result T SweepFault) : Type 0 where
  pub done : OnOk result (A → B → TakesAll told told' (sweep_text all nodes))
  pub emptied : OnOk result (A → B → (edges'.bag ≡ []) × (notes'.bag ≡ []))
  pub part : IfErr result (λ fault. A → B → TakesPart told told' (sweep_text all nodes))
  pub lines : IfErr result (λ fault. A → B → StopsByQueue nodes told told' all fault)
  pub sink : SinkAfter faults faults' result
  pub queues : QueuesAfter edges edges' notes notes' result

module _ {T : Type 0} (A B C : Type 0) (so : B → C) (nodes : ℕ) (all : List Pair) (edges edges' notes notes' : Holding Pair) (told mid told' : Option (List ℕ)) (has : List ℕ) (faults between faults' : ℕ) where
  -- what a sweep leaves, by how its nodes came up and what was written then
  pub finished :
      (given result : Result T SweepFault) → (A → AreEdges nodes all) → QueuesAfter edges edges' notes notes' given → SinkAfter faults between given
      → OnOk given (A → C → HasSwept nodes told mid all edges'.bag notes'.bag has) → IfErr given (λ fault. A → C → StopsSweep nodes told mid all has fault)
      → FinishesBy mid told' between faults' has given result → Leaves A B nodes all edges edges' notes notes' told told' faults faults' result
  finished (Ok value) result are queues sink swept stops (inl w) =
      subst (Leaves A B nodes all edges edges' notes notes' told told' faults faults') (sym w.0) (record {
        done = λ a b. all_gathered told mid told' (sweep_text all nodes) has (swept a (so b)).text w.1;
        emptied = λ a b. none_after nodes told mid all edges'.bag notes'.bag has (are a) (swept a (so b));
        part = tt;
        lines = tt;
        sink = w.2 ∙ sink;
        queues = queues;
      })
  finished (Ok value) result are queues sink swept stops (inr w) =
      subst (Leaves A B nodes all edges edges' notes notes' told told' faults faults') (sym w.0) (record {
        done = tt;
        emptied = tt;
        part = λ a b. part_gathered told mid told' (sweep_text all nodes) has (swept a (so b)).text w.1;
        lines = λ a b. tt;
        sink = omega (arith, w.2, sink);
        queues = queues_unwritten {T = T} edges edges' notes notes' (Ok value) queues;
      })
  finished (Err (Queue fault)) result are queues sink swept stops (inl w) =
      subst (Leaves A B nodes all edges edges' notes notes' told told' faults faults') (sym w.0) (record {
        done = tt;
        emptied = tt;
        part = λ a b. (let it = stops a (so b) in let took = all_gathered told mid told' (sweep_text all it.0) has it.2 w.1 in first_lines all told told' it.0 nodes it.1 (all_is_part told told' (sweep_text all it.0) took));
        lines = λ a b. (let it = stops a (so b) in (it.0, it.1, all_gathered told mid told' (sweep_text all it.0) has it.2 w.1));
        sink = w.2 ∙ sink;
        queues = queues;
      })
  finished (Err (Queue fault)) result are queues sink swept stops (inr w) =
      subst (Leaves A B nodes all edges edges' notes notes' told told' faults faults') (sym w.0) (record {
        done = tt;
        emptied = tt;
        part = λ a b. (let it = stops a (so b) in first_lines all told told' it.0 nodes it.1 (part_gathered told mid told' (sweep_text all it.0) has it.2 w.1));
        lines = λ a b. tt;
        sink = omega (arith, w.2, sink);
        queues = queues_unwritten {T = T} edges edges' notes notes' (Err (Queue fault)) queues;
      })
  finished (Err Write) result are queues sink swept stops w =
      subst (Leaves A B nodes all edges edges' notes notes' told told' faults faults') (sym w.0) (record {
        done = tt;
        emptied = tt;
        part = λ a b. subst (λ o. TakesPart told o (sweep_text all nodes)) (sym w.1) (stops a (so b));
        lines = λ a b. tt;
        sink = omega (arith, w.2, sink);
        queues = queues;
      })
