use Rattle.ppq_queue.proofs.Used.{few_writes}
use Rattle.ppq_queue.proofs.laws.writes_are_few.Goals as goal

pub returns : goal.returns
returns c n t backed = few_writes n t backed
