use Rattle.std.proofs.Common.{subst, arith}
use Rattle.std.proofs.lemmas.List.{nil_from_length}
use Rattle.ppq_session.proofs.PutIn.{PutSome, put-none, may-put, put-more, put-all}
use Rattle.ppq_session.proofs.gather.gather_all.Goals as goal

pub gathering-init : goal.gathering-init
gathering-init g c = put-none g.S.Slot.shown g.R.Ord.cmp g.R.Record.record_of g.R.Record.WIDTH c.args.brought.items c.args.c.now

pub gather-requires-after_bounds : goal.gather-requires-after_bounds
gather-requires-after_bounds g c κs within =
    let shown = g.S.Slot.shown in
    let all = c.args.brought.items in
    let some = subst (λ l. PutSome shown g.R.Ord.cmp g.R.Record.record_of g.R.Record.WIDTH all l c.args.c.now c.gathering.c) c.in-Some.ensures.items c.gathering.invariant in
    may-put shown g.R.Ord.cmp g.R.Record.record_of g.R.Record.WIDTH all c.pop.new.self.items c.in-Some.one c.args.c.now c.gathering.c some c.requires

pub gathering-preserved : goal.gathering-preserved
gathering-preserved g c =
    let shown = g.S.Slot.shown in
    let all = c.args.brought.items in
    let some = subst (λ l. PutSome shown g.R.Ord.cmp g.R.Record.record_of g.R.Record.WIDTH all l c.args.c.now c.gathering.c) c.in-Some.ensures.items c.gathering.invariant in
    put-more shown g.R.Ord.cmp g.R.Record.record_of g.R.Record.WIDTH all c.pop.new.self.items c.in-Some.one c.args.c.now c.gathering.c some c.gather.new.c c.gather.ensures

pub returns : goal.returns
returns g c =
    put-all g.S.Slot.shown g.R.Ord.cmp g.R.Record.record_of g.R.Record.WIDTH c.args.brought.items c.gathering.brought.items c.args.c.now c.gathering.c c.gathering.invariant
    (nil_from_length c.gathering.brought.items (omega (arith, c.in_default.ensures.cases)))
