use Rattle.std.proofs.Common.{arith}
use Rattle.ppq_pass_tests.proofs.seats.berths.Goals as goal

pub returns-clause-count : goal.returns-clause-count
returns-clause-count g c = grind arith

pub returns-clause-bytes : goal.returns-clause-bytes
returns-clause-bytes g c = grind arith
