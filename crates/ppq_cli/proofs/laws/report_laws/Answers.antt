use Rattle.ppq_cli.proofs.Reported.{report-one, status-one}
use Rattle.ppq_cli.proofs.laws.report_laws.Goals as goal

pub returns-clause-status : goal.returns-clause-status
returns-clause-status c = status-one

pub returns-clause-report : goal.returns-clause-report
returns-clause-report c = report-one
