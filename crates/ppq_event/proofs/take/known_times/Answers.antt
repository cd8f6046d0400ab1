use Rattle.ppq_event.proofs.Taken.{times_more}
use Rattle.ppq_event.proofs.take.known_times.Goals as goal

pub knowing-preserved : goal.knowing-preserved
knowing-preserved c = times_more c.args.events.now c.knowing.i (record { time = 0; target = 0; word = 0 }) c.knowing-test.true c.knowing.invariant c.known.ensures.0
