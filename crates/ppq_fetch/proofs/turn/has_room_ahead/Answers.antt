use lib.Dec.{ltb}
use Rattle.std.proofs.Common.{take, arith, length-take}
use Rattle.ppq_fetch.proofs.Waiting.{fronts-le, byte_le}
use Rattle.ppq_fetch.proofs.turn.has_room_ahead.Goals as goal

pub overflow_add-fronts : goal.overflow_add-fronts
overflow_add-fronts g c =
    let l = c.loop-array in
    omega (arith, l.invariant.fronts, fronts-le (take l.array-index c.args.external.now), length-take l.array-index c.args.external.now, c.loop-array-test.true, c.from-fronts.ensures, byte_le (ltb 0 c.loaded.result), c.requires.few)

pub overflow_add-result : goal.overflow_add-result
overflow_add-result g c =
    let l = c.loop-array in
    omega (arith, l.invariant.fronts, fronts-le (take l.array-index c.args.external.now), length-take l.array-index c.args.external.now, c.from.ensures, c.ranges.ahead, c.requires.few)
