use Rattle.std.proofs.Common.{◌≡◌, take}
use Rattle.std.specs.Prelude.{flat_map}
use Rattle.ppq_handler.specs.Agenda.{entry_text}
use Rattle.ppq_text.specs.Gathering.{Gathers}
use Rattle.ppq_event.specs.Going.{entries_of}
use Rattle.ppq_event.proofs.lines.put_lines.Given as goal

-- the lines of the events so far were gathered
abbrev pub invariant-putting : goal.invariant-putting
invariant-putting g l = record {
  text : Gathers (g.O.Sink.told l.fn.out) (g.O.Sink.told l.out) l.fn.lines (flat_map entry_text (entries_of (take l.i l.events) (take l.i l.answers))) l.lines;
  faults : g.O.Sink.faults l.out ≡ g.O.Sink.faults l.fn.out;
}
