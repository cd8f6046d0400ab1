use Rattle.ppq_serve_cli.proofs.program.serve_and_report.Goals as goal

pub returns : goal.returns
returns g c =
    let call = c.serve_words-answered in
    let said = c.report_outcome.ensures in
    record { outcome = (call.result, (call.ensures.answers, (said.status, said.line))) }
