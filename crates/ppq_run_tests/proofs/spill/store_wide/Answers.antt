use Rattle.ppq_run_tests.proofs.Wide.{wide_body_may_store, list_ascends}
use Rattle.ppq_run_tests.proofs.spill.store_wide.Goals as goal

pub store_sorted-requires-clause-room : goal.store_sorted-requires-clause-room
store_sorted-requires-clause-room g c κs within = wide_body_may_store _ 16 _ c.args.body.now c.args.owner.now c.requires.wide c.requires.block c.requires.few

pub store_sorted-requires-clause-ascend : goal.store_sorted-requires-clause-ascend
store_sorted-requires-clause-ascend g c κs within = list_ascends _ 16 _ c.args.sorted.now c.args.body.now c.args.owner.now c.requires.wide.no_internal c.requires.ascend
