use Rattle.ppq_queue.proofs.Used.{right_refusal, none_in_use}
use Rattle.ppq_queue.proofs.laws.blocks_are_used.Goals as goal

pub returns-clause-short : goal.returns-clause-short
returns-clause-short g c old new range all uses found = right_refusal old new range all uses found

pub returns-clause-none : goal.returns-clause-none
returns-clause-none g c q range all some uses none = none_in_use q range all some uses none
