use Rattle.std.proofs.Common.{arith}
use Rattle.ppq_pass_tests.proofs.pass_device.pass_of.Goals as goal

pub new-requires-2 : goal.new-requires-2
new-requires-2 g c = omega arith

pub new-requires-3-clause-heap : goal.new-requires-3-clause-heap
new-requires-3-clause-heap g c = grind arith

pub new-requires-3-clause-body : goal.new-requires-3-clause-body
new-requires-3-clause-body g c = grind arith

pub new-requires-3-clause-undrawn : goal.new-requires-3-clause-undrawn
new-requires-3-clause-undrawn g c = c.requires.undrawn

pub new-requires-3-clause-slots : goal.new-requires-3-clause-slots
new-requires-3-clause-slots g c = grind arith

pub new-requires-3-clause-bytes : goal.new-requires-3-clause-bytes
new-requires-3-clause-bytes g c = grind arith

pub new-requires-3-clause-untaken : goal.new-requires-3-clause-untaken
new-requires-3-clause-untaken g c = c.requires.untaken

pub new-requires-3-clause-shape : goal.new-requires-3-clause-shape
new-requires-3-clause-shape g c = grind arith

pub new-requires-3-clause-buffers : goal.new-requires-3-clause-buffers
new-requires-3-clause-buffers g c = grind arith

pub new-requires-3-clause-numbers : goal.new-requires-3-clause-numbers
new-requires-3-clause-numbers g c = grind arith

pub new-requires-3-clause-room : goal.new-requires-3-clause-room
new-requires-3-clause-room g c = grind arith

pub returns-clause-row : goal.returns-clause-row
returns-clause-row g c = grind arith

pub returns-clause-pool : goal.returns-clause-pool
returns-clause-pool g c = grind arith
