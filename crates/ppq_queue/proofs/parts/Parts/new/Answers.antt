use Rattle.std.proofs.Common.{arith}
use Rattle.std.specs.Prelude.{Result, Ok, Err, IfOk, IsErrAnd}
use Rattle.ppq_queue.proofs.parts.Parts.new.Goals as goal

-- what holds of an Ok holds of an error
of_error : {X E : Type 0} (P : X → Type 0) (Q : E → Type 0) (r : Result X E) → IsErrAnd r Q → IfOk r P
of_error P Q (Ok v) is = absurd is
of_error P Q (Err e) is = tt

pub returns-in_err-heaps : goal.returns-in_err-heaps
returns-in_err-heaps g c = grind arith

pub returns-in_err-body : goal.returns-in_err-body
returns-in_err-body g c = grind arith

pub returns-in_err-extract : goal.returns-in_err-extract
returns-in_err-extract g c = grind arith

pub returns-in_err-sources : goal.returns-in_err-sources
returns-in_err-sources g c = grind arith

pub make_buffers-requires-clause-block : goal.make_buffers-requires-clause-block
make_buffers-requires-clause-block g c = grind arith

pub make_buffers-requires-clause-room : goal.make_buffers-requires-clause-room
make_buffers-requires-clause-room g c = grind arith

pub returns-in_err-make_buffers : goal.returns-in_err-make_buffers
returns-in_err-make_buffers g c = of_error _ _ c.from_residual-in_err-make_buffers.result c.from_residual-in_err-make_buffers.ensures.1
