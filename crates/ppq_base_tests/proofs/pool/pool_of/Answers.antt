use Rattle.std.proofs.Common.{refl}
use Rattle.ppq_base_tests.proofs.pool.pool_of.Goals as goal

pub new-requires-clause-one_shape : goal.new-requires-clause-one_shape
new-requires-clause-one_shape g c = (4, λ k d lt. refl)
