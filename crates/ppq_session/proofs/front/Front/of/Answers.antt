use Rattle.ppq_session.proofs.Fronted.{tallied_first, sound_first}
use Rattle.ppq_session.proofs.front.Front.of.Goals as goal

pub invariant_of-result : goal.invariant_of-result
invariant_of-result g c =
    let shown = g.S.Slot.shown in
    let cmp = g.R.Ord.cmp in
    let record_of = g.R.Record.record_of in
    let width = g.R.Record.WIDTH in
    let q = c.args.parts in
    let r = c.requires in
    (r.bulk.apart.out, tallied_first shown cmp record_of width q r.bulk r.limited r.all, (λ none. sound_first shown cmp record_of width q r.bulk c.args.limit r.all r.few))
