use Rattle.std.proofs.Common.{◌<◌, ◌-◌, ◌^◌, sym, subst, arith, min, None}
use Rattle.std.specs.List.{AllByRecursion as Each}
use Rattle.ppq_queue.specs.Sizes.{batch_of}
use Rattle.ppq_event.specs.Waiting.{TakesRound}
use Rattle.ppq_event.proofs.Taken.{took_last, takes_round}
use Rattle.ppq_event.proofs.take.take_last.Goals as goal

pub returns-clause-took : goal.returns-clause-took
returns-clause-took g c =
    let old = c.args.queue.now in
    let new = c.bulk_pop.new.self in
    let out = c.bulk_pop.new.out in
    let most = min c.args.most (batch_of old.sizes) in
    let some : 0 < most = omega (arith, c.requires.some, c.requires.place, c.requires.room) in
    let known = subst (Each (λ x. x.time < 2 ^ 64)) c.as_slice.ensures c.known_times.ensures in
    subst (λ m. TakesRound (2 ^ 64 - 1) (min c.args.most m) old new out.items) (sym c.requires.room)
    (takes_round None (2 ^ 64 - 1) most old new c.args.taken.now out (took_last most old new out.items some known) c.in_ok-bulk_pop.ensures.pops)
