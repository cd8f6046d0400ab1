use Rattle.std.proofs.Common.{◌≡◌, length}
use Rattle.std.specs.Prelude.{is_some}
use Rattle.ppq_script.specs.Words.{words}
use Rattle.ppq_requests.specs.Requests.{request_of}
use Rattle.ppq_requests.proofs.request.is_request.Given as goal

-- what is left is a request where the whole is
abbrev pub invariant-operations : goal.invariant-operations
invariant-operations g l = let w = words g.R.PartialEq g.R.PartialOrd g.R.Ord g.R.Record g.R.Fields in is_some (request_of w l.rest) ≡ is_some (request_of w l.fn.bytes)

abbrev pub decreases-operations : goal.decreases-operations
decreases-operations g l = length l.rest
