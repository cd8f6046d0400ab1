use Rattle.std.proofs.Common.{length, ap, arith}
use Rattle.ppq_fetch.specs.ppq_array.Run.{items_of}
use Rattle.ppq_spill.proofs.Counted.{take_fits}
use Rattle.ppq_spill.proofs.store.count_records.Goals as goal

pub overflow_add-count : goal.overflow_add-count
overflow_add-count g c =
    let l = c.loop-run in
    omega (arith, l.invariant, c.requires, c.len-count.ensures.len, take_fits c.args.internal.now l.run-index c.run-item.result c.loop-run-test.true, ap (λ r. length (items_of r)) c.run-item.is)
