use Rattle.std.proofs.Common.{◌≡◌, ◌-◌, length, ap, arith}
use Rattle.ppq_queue.proofs.Calls.{may_work, bulk-stopped, bulk-called}
use Rattle.ppq_queue.proofs.queue.Queue.bulk.Goals as goal

pub returns-in-Some : goal.returns-in-Some
returns-in-Some g c = bulk-stopped c.self.invariant.0 c.self.view_is c.in-Some.is c.args.out.now c.clear.ensures

pub take_out-answer-requires-clause-works : goal.take_out-answer-requires-clause-works
take_out-answer-requires-clause-works g c κs within = may_work c.self.invariant.0 c.in_default.is

pub take_out-answer-requires-clause-list : goal.take_out-answer-requires-clause-list
take_out-answer-requires-clause-list g c κs within = record { none = ap (λ l. l.items) c.clear.ensures; room = omega (arith, c.requires.most, ap (λ l. l.room) c.clear.ensures) }

pub invariant_of-self : goal.invariant_of-self
invariant_of-self g c =
    let laws = c.record_laws.ensures in
    let m = c.take_out-answer in
    let now = c.empty_on_error.new.out in
    let fewer : c.saturating_sub-self-inside.result ≡ c.self.inside.count - length now.items = omega (arith, c.saturating_sub-self-inside.ensures, c.from.ensures, c.len.ensures.value) in
    ((bulk-called c.self.invariant.0 c.in_default.is m.result c.self.view_is c.latch.ensures c.args.out.now c.clear.new.self m.new.out now laws.order laws.same c.clear.ensures m.ensures c.empty_on_error.ensures fewer).0, c.self.invariant.1)

pub returns : goal.returns
returns g c =
    let laws = c.record_laws.ensures in
    let m = c.take_out-answer in
    let now = c.empty_on_error.new.out in
    let fewer : c.saturating_sub-self-inside.result ≡ c.self.inside.count - length now.items = omega (arith, c.saturating_sub-self-inside.ensures, c.from.ensures, c.len.ensures.value) in
    (bulk-called c.self.invariant.0 c.in_default.is m.result c.self.view_is c.latch.ensures c.args.out.now c.clear.new.self m.new.out now laws.order laws.same c.clear.ensures m.ensures c.empty_on_error.ensures fewer).1
