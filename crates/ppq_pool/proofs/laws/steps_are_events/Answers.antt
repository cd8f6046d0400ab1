use Rattle.ppq_pool.proofs.Events as events
use Rattle.ppq_pool.proofs.laws.steps_are_events.Goals as goal

pub returns : goal.returns
returns g c = record {
  steps = events.steps_are_events _ _;
  joins = events.joins_are_counted _;
}
