use Rattle.ppq_answer.proofs.Asked.{operated}
use Rattle.ppq_answer.proofs.answer.operate.Goals as goal

pub returns-in-Push : goal.returns-in-Push
returns-in-Push g c = operated c.in-Push.is c.execute.ensures

pub returns-in-PushMany : goal.returns-in-PushMany
returns-in-PushMany g c = operated c.in-PushMany.is c.push_records.ensures

pub returns-in-Pop : goal.returns-in-Pop
returns-in-Pop g c = operated c.in-Pop.is c.execute-in-Pop.ensures

pub returns-in-Top : goal.returns-in-Top
returns-in-Top g c = operated c.in-Top.is c.execute-in-Top.ensures

pub returns-in-BulkPop : goal.returns-in-BulkPop
returns-in-BulkPop g c = operated c.in-BulkPop.is c.execute-in-BulkPop.ensures

pub returns-in-BulkPopLimit : goal.returns-in-BulkPopLimit
returns-in-BulkPopLimit g c = operated c.in-BulkPopLimit.is c.execute-in-BulkPopLimit.ensures
