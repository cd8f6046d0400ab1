use Rattle.std.proofs.Common.{[], sym, subst}
use Rattle.ppq_session.specs.SessionPass.{Takes}
use Rattle.ppq_session.proofs.Adding.{takes-none, says-going}
use Rattle.ppq_session.proofs.LineParts.{records_for-named, records_for-other}
use Rattle.ppq_session.proofs.lines.push_line.Goals as goal

pub returns-then-line-number : goal.returns-then-line-number
returns-then-line-number g c =
    let pass = c.args.pass.now in
    record {
      takes = subst (λ rs. Takes g.S.Slot.shown g.R.Ord.cmp rs pass pass) (sym (records_for-other c.args.number c.args.line [] c.if-line-number.true)) (takes-none g.S.Slot.shown g.R.Ord.cmp pass c.requires.going);
      says = says-going pass c.requires.going;
    }

pub returns-clause-takes : goal.returns-clause-takes
returns-clause-takes g c = subst (λ rs. Takes g.S.Slot.shown g.R.Ord.cmp rs c.args.pass.now c.push_one.new.pass) (sym (records_for-named c.args.number c.args.line [] c.if-line-number.false)) c.push_one.ensures.takes
