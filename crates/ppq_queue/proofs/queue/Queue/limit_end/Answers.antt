use Rattle.std.proofs.Common.{◌∙◌, sym}
use Rattle.ppq_queue.proofs.Ends.{some_below, none_below}
use Rattle.ppq_queue.proofs.queue.Queue.limit_end.Goals as goal

pub returns-in_default : goal.returns-in_default
returns-in_default g c tell =
    let laws = c.record_laws.ensures in
    none_below laws.order laws.same c.args.l c.args.self.now.bag c.least.result (c.least.ensures.answer tell) (sym c.keep_below.ensures ∙ c.in_default.is)

pub returns-then-n-room : goal.returns-then-n-room
returns-then-n-room g c tell =
    let laws = c.record_laws.ensures in
    (c.if-n-room.true, some_below laws.order laws.same c.args.l _ c.args.self.now.bag c.least.result (c.least.ensures.answer tell) (sym c.keep_below.ensures ∙ c.in-Some.is))

pub returns : goal.returns
returns g c tell =
    let laws = c.record_laws.ensures in
    (c.if-n-room.false, some_below laws.order laws.same c.args.l _ c.args.self.now.bag c.least.result (c.least.ensures.answer tell) (sym c.keep_below.ensures ∙ c.in-Some.is))

pub least-requires-after_bounds : goal.least-requires-after_bounds
least-requires-after_bounds g c = assumption
