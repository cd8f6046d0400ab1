use Rattle.std.proofs.Common.{length, ap, arith, length-append}
use Rattle.ppq_fetch.proofs.take.keep_spent.Goals as goal

pub push_back-requires : goal.push_back-requires
push_back-requires g c =
    let l = c.loop-buf in
    omega (arith, ap length l.invariant.idle, ap length c.in-Some.ensures.spent, length-append l.idle l.array.loaded.spent, length-append c.args.idle.now c.args.array.now.loaded.spent, c.requires)
