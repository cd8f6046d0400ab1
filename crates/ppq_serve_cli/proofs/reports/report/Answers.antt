use Rattle.ppq_serve_cli.proofs.reports.report.Goals as goal

pub returns-in-BadRequest-clause-part : goal.returns-in-BadRequest-clause-part
returns-in-BadRequest-clause-part g c = rw c.in-BadRequest.is c.put_number.ensures.part
