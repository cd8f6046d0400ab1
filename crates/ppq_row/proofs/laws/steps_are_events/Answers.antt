use Rattle.ppq_row.proofs.Shown as shown
use Rattle.ppq_row.proofs.laws.steps_are_events.Goals as goal

pub returns : goal.returns
returns g c = record {
  steps = shown.steps_are_events;
  notes = shown.notes_are_true _ _;
  joins = shown.joins_are_counted _;
}
