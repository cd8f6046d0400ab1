use Rattle.std.proofs.Common.{ap, sym, sum_by, ◌∙◌, arith}
use Rattle.ppq_queue.proofs.queue.Queue.close.Goals as goal

pub returns : goal.returns
returns g c f = sym (ap (λ q. sum_by f q.slots) c.self.view_is) ∙ c.give_back.ensures f

pub give_back-requires-clause-empty : goal.give_back-requires-clause-empty
give_back-requires-clause-empty g c = assumption

pub give_back-requires-clause-room : goal.give_back-requires-clause-room
give_back-requires-clause-room g c = omega arith
