use Rattle.ppq_session.proofs.InRuns as runs
use Rattle.ppq_session.proofs.Stored as stores
use Rattle.ppq_session.proofs.laws.runs_are_stored.Goals as goal

pub returns : goal.returns
returns g c = record {
  stored = runs.runs_stored g.S.Slot.shown;
  anywhere = stores.stores_anywhere;
}
