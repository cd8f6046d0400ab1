use Rattle.std.proofs.Common.{◌≡◌, ◌∙◌, ◌*◌, length, take, min, ap, subst, arith}
use Rattle.ppq_session.specs.Dealing.{Adds}
use Rattle.ppq_session.proofs.Adding.{drop_within}
use Rattle.ppq_session.proofs.dealing.add_part.Goals as goal

pub returns : goal.returns
returns g c =
    let records = g.M.Maker.rest c.args.maker.now in
    let place = c.args.worker * c.args.part in
    let from : c.min-from.result ≡ min (length records) place = omega (arith, c.left.ensures) in
    subst (λ rs. Adds g.S.Slot.shown rs c.args.pass.now c.add_made.new.pass) (c.part-own.ensures ∙ ap (take c.args.part) (drop_within records c.min-from.result place from)) c.add_made.ensures
