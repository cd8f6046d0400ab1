use Rattle.ppq_session.proofs.OneHistory as one
use Rattle.ppq_session.proofs.laws.sessions_are_histories.Goals as goal

pub returns : goal.returns
returns g c = let core = c.interleaving_laws.ensures in record {
  shown = one.shown_at_first c.slot_laws.ensures.places core.together core.apart core.renumbered c.steps_are_events.ensures.steps c.steps_are_events-2.ensures.steps;
  plays = one.plays _ _ _;
  step = one.goes_on c.slot_laws.ensures.places core.together core.apart core.renumbered c.steps_are_events.ensures.steps c.steps_are_events-2.ensures.steps;
  steps = one.go_on c.slot_laws.ensures.places core.together core.apart core.renumbered c.steps_are_events.ensures.steps c.steps_are_events-2.ensures.steps;
}
