use Rattle.std.proofs.Common.{◌<◌, sym, subst, arith, min, Some}
use Rattle.ppq_queue.specs.Sizes.{batch_of}
use Rattle.ppq_event.specs.Waiting.{TakesRound}
use Rattle.ppq_event.proofs.Taken.{next_time, took_before, takes_round}
use Rattle.ppq_event.proofs.take.take_before_next.Goals as goal

pub returns-clause-took : goal.returns-clause-took
returns-clause-took g c =
    let old = c.args.queue.now in
    let new = c.bulk_pop_limit.new.self in
    let out = c.bulk_pop_limit.new.out in
    let most = min c.args.most (batch_of old.sizes) in
    let some : 0 < most = omega (arith, c.requires.some, c.requires.place, c.requires.room) in
    subst (λ m. TakesRound c.args.time (min c.args.most m) old new out.items) (sym c.requires.room)
    (takes_round (Some (next_time c.args.time)) c.args.time most old new c.args.taken.now out (took_before c.args.time most old new out.items some) c.in_ok-bulk_pop_limit.ensures.pops)
