use Rattle.std.proofs.Common.{refl, arith}
use Rattle.ppq_session.proofs.Answered.{answered-none, answered-more, answered-all, answered-stopped}
use Rattle.ppq_session.proofs.answering.answer_all.Goals as goal

pub loop-i-init : goal.loop-i-init
loop-i-init g c = record { so_far = answered-none c.args.answers.now.items c.args.front.now c.requires.no_answer c.requires.sound; room = refl }

pub loop-i-preserved : goal.loop-i-preserved
loop-i-preserved g c =
    let i = c.loop-i.invariant in
    let old = c.args.front.now in
    let new = c.answer_one.new.front in
    let ok = c.in-Ok.ensures in
    record {
      so_far = answered-more c.record_laws.ensures.order c.record_laws.ensures.same c.args.asks.now c.loop-i.i _ c.loop-i.answers.items c.push_reserved.new.self.items c.in-Ok.answer old c.loop-i.front new c.push_reserved.ensures.items (omega arith) refl i.so_far ok.kept ok.quiet ok.sound ok.answer ok.left;
      room = omega (arith, c.push_reserved.ensures.capacity, i.room);
    }

pub returns-in-Err-clause-answered : goal.returns-in-Err-clause-answered
returns-in-Err-clause-answered g c =
    let i = c.loop-i.invariant in
    answered-stopped c.args.asks.now c.loop-i.i c.loop-i.answers.items c.args.front.now c.loop-i.front c.answer_one.new.front c.in-Err.field-0 (omega arith) i.so_far c.in-Err.ensures.kept c.in-Err.ensures.refused

pub returns-clause-answered : goal.returns-clause-answered
returns-clause-answered g c = answered-all c.args.asks.now c.loop-i.i c.loop-i.answers.items c.args.front.now c.loop-i.front (omega arith) c.loop-i.invariant.so_far
