use Rattle.std.proofs.Common.{length, ap, arith}
use Rattle.ppq_pass.specs.ppq_array.Run.{items_of}
use Rattle.ppq_session.proofs.Emptying.{no_items, spent_all}
use Rattle.ppq_session.proofs.gather.empty_run.Goals as goal

pub emptying-init : goal.emptying-init
emptying-init g c =
    let now = c.consume.new.self in
    let none = no_items (items_of c.args.run) c.len-count.result (items_of now) c.len-count.ensures.len c.consume.ensures.items in
    let e = spent_all now c.consume.ensures.run none in
    record { count = omega (arith, ap length e.1, ap length c.consume.ensures.buffers); live = e.0 }
