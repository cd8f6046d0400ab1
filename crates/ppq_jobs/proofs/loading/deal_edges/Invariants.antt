use Rattle.std.proofs.Common.{◌≡◌, ◌≤◌, ◌+◌, ◌-◌, ◌*◌, ◌/◌, [], length, All}
use Rattle.ppq_sweep.specs.ppq_record.declared.pair.Pair.{Pair}
use Rattle.ppq_sweep.specs.ppq_record.Pair.{pair_of}
use Rattle.ppq_sweep.specs.ppq_queue.Holding.{Holding}
use Rattle.ppq_engine.specs.ppq_files.Reading.{ReadsFile}
use Rattle.ppq_engine.specs.ppq_load.Loading.{InSession, HasGiven}
use Rattle.ppq_engine.specs.ppq_load.ppq_session.Dealing.{IsGoing}
use Rattle.ppq_jobs.specs.Edges.{wanted_of}
use Rattle.ppq_jobs.specs.Loading.{HasLooked}
use Rattle.ppq_jobs.proofs.loading.deal_edges.Given as goal

abbrev pub invariant-pieces : goal.invariant-pieces
invariant-pieces g l = record {
  given : (queue : Holding Pair) → InSession g.S.Slot.shown queue [] l.fn.session → HasGiven pair_of 16 g.S.Slot.shown queue (g.L.Library.told l.fn.library) l.graph.name.now l.pieces.from l.session;
  going : All IsGoing l.session.passes;
  name : l.pieces.name ≡ l.graph.name.now;
  said : l.pieces.said ≡ l.graph.bytes;
  within : l.pieces.from * 16 ≤ l.graph.bytes;
  room : 16 ≤ length l.room;
  reads : ReadsFile g.L.Library.told g.L.Library.replied l.graph.name.now l.graph.bytes l.fn.library l.library;
  stays : g.L.Library.faults l.library ≡ g.L.Library.faults l.fn.library;
  looked : HasLooked (g.L.Library.told l.fn.library) (g.L.Library.replied l.library) (wanted_of l.graph) l.pieces.from;
  counted : l.number ≡ l.pieces.from + 1;
}

abbrev pub decreases-pieces : goal.decreases-pieces
decreases-pieces g l = l.graph.bytes / 16 - l.pieces.from
