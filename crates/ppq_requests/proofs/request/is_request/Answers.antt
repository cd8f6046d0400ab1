use Rattle.std.proofs.Common.{◌∙◌, sym, ap}
use Rattle.std.specs.Prelude.{is_some}
use Rattle.ppq_script.specs.Words.{words}
use Rattle.ppq_requests.specs.Requests.{commands_of, request_of}
use Rattle.ppq_requests.proofs.Operations.{request-operation, in_front-some}
use Rattle.ppq_requests.proofs.request.is_request.Goals as goal

pub operations-preserved : goal.operations-preserved
operations-preserved g c =
    let w = words g.R.PartialEq g.R.PartialOrd g.R.Ord g.R.Record g.R.Fields in
    let rest = c.operations.rest.now in
    let behind = c.in-Some.behind.now in
    let commands = commands_of w c.in-Some._operation in
    let front = request-operation w rest behind commands (sym c.in-Some.ensures.operation) in
    sym (ap is_some front ∙ in_front-some w commands (request_of w behind)) ∙ c.operations.invariant
