use Rattle.std.proofs.Common.{◌+◌, refl, arith}
use Rattle.ppq_session.proofs.Adding.{takes-none, takes-then, takes-ended}
use Rattle.ppq_session.proofs.LineParts.{records_for-more, records_for-parts}
use Rattle.ppq_session.proofs.lines.push_named.Goals as goal

pub loop-i-init : goal.loop-i-init
loop-i-init g c = record { going = c.requires.going; takes = takes-none g.S.Slot.shown g.R.Ord.cmp c.args.pass.now c.requires.going }

pub loop-i-preserved : goal.loop-i-preserved
loop-i-preserved g c =
    let i = c.loop-i.invariant in
    let more = records_for-more c.args.number c.args.lines.now c.loop-i.i c.index-lines-i.result (omega arith) c.index-lines-i.is in
    record {
      going = c.if-not-push_line.ensures.says.going.0 refl;
      takes = takes-then g.S.Slot.shown g.R.Ord.cmp _ _ _ more c.args.pass.now c.loop-i.pass c.push_line.new.pass i.takes i.going c.push_line.ensures.takes;
    }

pub returns-then-not-push_line : goal.returns-then-not-push_line
returns-then-not-push_line g c =
    let i = c.loop-i.invariant in
    let shown = g.S.Slot.shown in
    let cmp = g.R.Ord.cmp in
    let new = c.push_line.new.pass in
    let more = records_for-more c.args.number c.args.lines.now c.loop-i.i c.index-lines-i.result (omega arith) c.index-lines-i.is in
    let so_far = takes-then shown cmp _ _ _ more c.args.pass.now c.loop-i.pass new i.takes i.going c.push_line.ensures.takes in
    takes-ended shown cmp _ _ _ (records_for-parts c.args.number c.args.lines.now (c.loop-i.i + 1)) c.args.pass.now new so_far (c.if-not-push_line.ensures.says.ended refl)
