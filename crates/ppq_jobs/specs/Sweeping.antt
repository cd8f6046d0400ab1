-- How the sweep of a graph ends, and what each end says of the output, the blocks and the faults.
use Rattle.std.specs.Prelude.{◌≡◌, ◌*◌, ℕ, false, List, All, length, Option}
use Rattle.ppq_sweep.specs.ppq_outside.Told.{Reply, TakesAll, TakesPart, Rose}
use Rattle.ppq_sweep.specs.ppq_queue.Shown.{Shown, AllTell}
use Rattle.ppq_sweep.specs.ppq_queue.Holding.{IsNewSlot}
use Rattle.ppq_sweep.specs.Levels.{sweep_text}
use Rattle.ppq_sweep.specs.declared.fault.SweepFault.{SweepFault}
use Rattle.ppq_sweep.specs.declared.fault.SweepFault.TheVariants.{Write, Queue}
use Rattle.ppq_engine.specs.ppq_load.ppq_budget.Sizes.{Numbers}
use Rattle.ppq_engine.specs.ppq_array.Kept.{HasFailed, AreQuiet}
use Rattle.ppq_engine.specs.Refusal.{HasNoRoom}
use Rattle.ppq_engine.specs.Running.{queue_end}
use Rattle.ppq_engine.specs.Outcome.{CountsStay}
use Rattle.ppq_engine.specs.declared.end.End.{End}
use Rattle.ppq_engine.specs.declared.end.End.TheVariants.{Done, ReadFault, WriteFault, DeviceFault, NoFreeBlock, Memory, FileChanged, BadEdge}
use Rattle.ppq_jobs.specs.Edges.{Wanted, edge_count, OfEdges, FindsBad, FindsNone}
use Rattle.ppq_jobs.specs.Ending.{HasShrunk}

-- why a sweep stopped, as an end
abbrev pub swept_end : SweepFault → End
swept_end Write = WriteFault
swept_end (Queue fault) = queue_end fault

-- as many slots as two devices of this size have blocks, each of the bytes of a block, and none called yet
pub record AreNewHalves (sizes : Numbers) (width : ℕ) (slots : List Shown) : Type 0 where
  pub count : length slots ≡ 2 * sizes.blocks
  pub fresh : All (IsNewSlot (sizes.block * width)) slots

module _ (told : Option (List ℕ → Option (List ℕ))) (replied : Reply → Type 0) (wanted : Wanted) (first slots : List Shown) (sizes : Numbers) (before now : Option (List ℕ)) (sink sink_now library library_now : ℕ) where
  -- what an end says: of the files that the library tells, what it replied, the blocks first and now, the output before and now, and the counts of
  -- sink and library
  abbrev pub GraphSays : End → Type 0
  GraphSays Done =
      (AllTell first → OfEdges told wanted (λ edges. TakesAll before now (sweep_text edges wanted.nodes)))
      × FindsNone told replied wanted
      × CountsStay sink sink_now library library_now
      × AreQuiet first slots
  GraphSays ReadFault = Rose library library_now × (sink_now ≡ sink) × (now ≡ before)
  GraphSays WriteFault = Rose sink sink_now × FindsNone told replied wanted × (library_now ≡ library)
  GraphSays (DeviceFault number) = HasFailed number slots × CountsStay sink sink_now library library_now
  GraphSays NoFreeBlock = HasNoRoom sizes false (edge_count wanted) × CountsStay sink sink_now library library_now × AreQuiet first slots
  GraphSays Memory = CountsStay sink sink_now library library_now × (now ≡ before)
  GraphSays (FileChanged line said got) = HasShrunk told replied wanted.name wanted.bytes line said got × CountsStay sink sink_now library library_now × (now ≡ before)
  GraphSays (BadEdge at) = FindsBad told replied wanted at × CountsStay sink sink_now library library_now × (now ≡ before)
  GraphSays _ = ⊥

  -- how the sweep of a graph ended on two open queues: what its end says, and that a prefix of the lines was written
  pub record EndsGraph (end : End) : Type 0 where
    pub says : GraphSays end
    pub part : AllTell first → OfEdges told wanted (λ edges. TakesPart before now (sweep_text edges wanted.nodes))
