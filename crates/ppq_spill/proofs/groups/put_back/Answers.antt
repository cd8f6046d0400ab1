use Rattle.std.proofs.Common.{length, ap, arith, length-append}
use Rattle.ppq_spill.proofs.groups.put_back.Goals as goal

pub push_back-requires : goal.push_back-requires
push_back-requires g c =
    let l = c.loop-buf in
    omega (arith, c.requires, ap length l.invariant, ap length c.in-Some.ensures.first, length-append l.idle l.filled, length-append c.args.idle.now c.args.filled)
