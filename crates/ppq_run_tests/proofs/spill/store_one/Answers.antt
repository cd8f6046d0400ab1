use Rattle.std.proofs.Common.{arith}
use Rattle.ppq_spill.proofs.Fresh.{new_body_may_store, one_ascends}
use Rattle.ppq_run_tests.proofs.spill.store_one.Goals as goal

pub store_sorted-requires-clause-room : goal.store_sorted-requires-clause-room
store_sorted-requires-clause-room g c κs within = new_body_may_store _ 16 1 2 2 1 c.args.body.now c.args.owner.now c.requires.new (omega arith) (omega arith) c.requires.block (omega arith) (omega arith) (omega arith)

pub store_sorted-requires-clause-ascend : goal.store_sorted-requires-clause-ascend
store_sorted-requires-clause-ascend g c κs within = one_ascends _ 16 _ c.pair.result c.args.body.now c.args.owner.now c.requires.new.no_internal
