use Rattle.ppq_queue.proofs.queue.Queue.from_parts.Goals as goal

pub invariant_of-result : goal.invariant_of-result
invariant_of-result g c = assumption

pub returns : goal.returns
returns g c = assumption
