use Rattle.std.proofs.Common.{arith}
use Rattle.ppq_pass_tests.proofs.seats.seats_of.Goals as goal

pub from_array-two-requires : goal.from_array-two-requires
from_array-two-requires g c = omega arith

pub new-requires : goal.new-requires
new-requires g c = grind arith

pub new-requires-2-clause-few : goal.new-requires-2-clause-few
new-requires-2-clause-few g c = grind arith

pub new-requires-2-clause-one_shape : goal.new-requires-2-clause-one_shape
new-requires-2-clause-one_shape g c = grind arith

pub returns-clause-row : goal.returns-clause-row
returns-clause-row g c = grind arith

pub returns-clause-undrawn : goal.returns-clause-undrawn
returns-clause-undrawn g c = grind arith

pub returns-clause-count : goal.returns-clause-count
returns-clause-count g c = grind arith

pub returns-clause-bytes : goal.returns-clause-bytes
returns-clause-bytes g c = grind arith

pub returns-clause-row_shares : goal.returns-clause-row_shares
returns-clause-row_shares g c = grind arith

pub returns-clause-pool : goal.returns-clause-pool
returns-clause-pool g c = grind arith

pub returns-clause-untaken : goal.returns-clause-untaken
returns-clause-untaken g c = grind arith

pub returns-clause-shape : goal.returns-clause-shape
returns-clause-shape g c = grind arith

pub returns-clause-buffers : goal.returns-clause-buffers
returns-clause-buffers g c = grind arith

pub returns-clause-pool_shares : goal.returns-clause-pool_shares
returns-clause-pool_shares g c = grind arith
