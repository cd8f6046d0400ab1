use Rattle.ppq_queue.proofs.queue.Queue.into_parts.Goals as goal

pub returns : goal.returns
returns g c = record { whole = assumption; shows = assumption }
