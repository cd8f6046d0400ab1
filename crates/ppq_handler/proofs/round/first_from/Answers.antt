use Rattle.ppq_handler.proofs.Halves.{split_here}
use Rattle.ppq_handler.proofs.round.first_from.Goals as goal

pub returns-else-events-at : goal.returns-else-events-at
returns-else-events-at c =
    split_here c.args.events.now c.args.cut c.seeking.at (record { time = 0; target = 0; word = 0 }) c.seeking.invariant.0 c.seeking.invariant.1 (λ _. c.if-events-at.false)
