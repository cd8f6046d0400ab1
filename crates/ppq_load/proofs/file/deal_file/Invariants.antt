use Rattle.std.proofs.Common.{◌≡◌, ◌≤◌, ◌-◌, ◌*◌, ◌/◌, [], length, All}
use Rattle.ppq_session.specs.ppq_queue.Holding.{Holding}
use Rattle.ppq_session.specs.Dealing.{IsGoing}
use Rattle.ppq_files.specs.Reading.{ReadsFile}
use Rattle.ppq_load.specs.Loading.{InSession, HasGiven}
use Rattle.ppq_load.proofs.file.deal_file.Given as goal

abbrev pub invariant-pieces : goal.invariant-pieces
invariant-pieces g l = record {
  given : (queue : Holding g.row.R.Denot) → InSession g.S.Slot.shown queue [] l.fn.session → HasGiven g.R.Record.record_of g.R.Record.WIDTH g.S.Slot.shown queue (g.L.Library.told l.fn.library) l.fn.pieces.name l.pieces.from l.session;
  going : All IsGoing l.session.passes;
  name : l.pieces.name ≡ l.fn.pieces.name;
  said : l.pieces.said ≡ l.fn.pieces.said;
  within : l.pieces.from * g.R.Record.WIDTH ≤ l.fn.pieces.said;
  room : g.R.Record.WIDTH ≤ length l.room;
  reads : ReadsFile g.L.Library.told g.L.Library.replied l.fn.pieces.name l.fn.pieces.said l.fn.library l.library;
  stays : g.L.Library.faults l.library ≡ g.L.Library.faults l.fn.library;
}

abbrev pub decreases-pieces : goal.decreases-pieces
decreases-pieces g l = l.fn.pieces.said / g.R.Record.WIDTH - l.pieces.from
