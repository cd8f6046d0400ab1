use Rattle.std.proofs.Common.{arith}
use Rattle.ppq_fetch.proofs.Hints.{restored, two_named}
use Rattle.ppq_fetch.proofs.prefetch.next_two.Goals as goal

pub returns-in-None-clause-bench : goal.returns-in-None-clause-bench
returns-in-None-clause-bench g c = restored c.args.bench.now c.hint.new.self c.hint-2.new.self c.in-Some.first.0 c.in-Some.first.1 c.in-Some.ensures.some.there c.hint.ensures.rest c.hint.ensures.hints c.hint-2.ensures.rest c.hint-2.ensures.hints

pub returns-in-Some-next-clause-two : goal.returns-in-Some-next-clause-two
returns-in-Some-next-clause-two g c =
    two_named c.args.external.now c.args.bench.now.hints c.hint.new.self.hints c.in-Some.first.0 c.in-Some-next.second.0 c.in-Some.first.1 c.in-Some-next.second.1 c.args.ahead c.requires.hints.nexts c.hint.ensures.hints c.in-Some.ensures.some.there c.in-Some-next.ensures.some.there
    (omega (arith, c.has_room_ahead.ensures.0 c.if-not-has_room_ahead.false, c.if-ahead-lt2.false))

pub returns-in-Some-next-clause-bench : goal.returns-in-Some-next-clause-bench
returns-in-Some-next-clause-bench g c = restored c.args.bench.now c.hint.new.self c.hint-2.new.self c.in-Some.first.0 c.in-Some.first.1 c.in-Some.ensures.some.there c.hint.ensures.rest c.hint.ensures.hints c.hint-2.ensures.rest c.hint-2.ensures.hints
