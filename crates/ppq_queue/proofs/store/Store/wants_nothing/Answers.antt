use Rattle.std.proofs.Common.{arith}
use Rattle.ppq_queue.proofs.store.Store.wants_nothing.Goals as goal

pub returns-then-is_none : goal.returns-then-is_none
returns-then-is_none g c = record { none = assumption; ready = grind arith }

pub returns-else-is_none : goal.returns-else-is_none
returns-else-is_none g c = record { none = assumption; ready = grind arith }

pub returns-else-wanted-eq0 : goal.returns-else-wanted-eq0
returns-else-wanted-eq0 g c = record { none = grind arith; ready = grind arith }
