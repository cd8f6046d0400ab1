use Rattle.std.proofs.Common.{◌∙◌, Some, None, sym}
use Rattle.ppq_sweep.proofs.Served.{takes_look, takes_pop, takes_more}
use Rattle.ppq_sweep.proofs.Took.{left_alone, took_by}
use Rattle.ppq_sweep.proofs.taking.take_up_to.Goals as goal

pub returns-in-Some-clause-takes : goal.returns-in-Some-clause-takes
returns-in-Some-clause-takes g c =
    let old = c.args.queue.now in
    let mid = c.top.new.self in
    let new = c.pop.new.self in
    takes_more old mid new (takes_look old mid c.top.ensures.stays) (takes_pop _ mid new c.pop.result c.pop.ensures.taken c.pop.ensures.refused c.pop.ensures.peak c.pop.ensures.keeps)

pub returns-in-Some-clause-taken : goal.returns-in-Some-clause-taken
returns-in-Some-clause-taken g c =
    let top = c.in_ok-first.ensures in
    took_by c.args.key c.args.queue.now c.top.new.self c.pop.new.self c.in-Some.first c.pop.result (λ tell. sym c.in-Some.is ∙ top.answer tell) c.if-first-key.true top.same top.stays.keeps c.pop.ensures.answer c.pop.ensures.taken

pub returns-in_default-clause-taken : goal.returns-in_default-clause-taken
returns-in_default-clause-taken g c tell =
    let top = c.in_ok-first.ensures in
    left_alone c.args.key c.args.queue.now.bag c.top.new.self.bag (Some c.in-Some.first) (sym c.in-Some.is ∙ top.answer tell) c.if-first-key.false (top.same.bag tell)

pub returns-in_default-2-clause-taken : goal.returns-in_default-2-clause-taken
returns-in_default-2-clause-taken g c tell =
    let top = c.in_ok-first.ensures in
    left_alone c.args.key c.args.queue.now.bag c.top.new.self.bag None (sym c.in_default.is ∙ top.answer tell) tt (top.same.bag tell)
