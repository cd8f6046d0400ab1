use Rattle.std.proofs.Common.{◌≡◌, ap}
use Rattle.std.specs.Prelude.{Err}
use Rattle.ppq_queue.specs.Holding.{Holding, session_begun}
use Rattle.ppq_session.specs.declared.fault.BeginFault.{BeginFault}
use Rattle.ppq_session.specs.declared.fault.BeginFault.TheVariants.{Device}
use Rattle.ppq_session.proofs.Sessions.{session-begin, fresh-going}
use Rattle.ppq_session.proofs.session.Session.begin.Goals as goal

pub returns-in-Ok-clause-session : goal.returns-in-Ok-clause-session
returns-in-Ok-clause-session g c = session-begin g.S.Slot.shown c.args.queue c.in-Ok.bulk c.in-Ok.shared c.in-Ok.passes.items c.in-Ok.ensures.begun

pub returns-in-Ok-clause-going : goal.returns-in-Ok-clause-going
returns-in-Ok-clause-going g c = fresh-going c.in-Ok.passes.items c.in-Ok.ensures.begun.fresh

pub returns-in-Ok-clause-latched : goal.returns-in-Ok-clause-latched
returns-in-Ok-clause-latched g c = λ number latched. let said = c.in-Ok.ensures.latched number latched in absurd (cc)

pub returns-in-Err-clause-latched : goal.returns-in-Err-clause-latched
returns-in-Err-clause-latched g c = λ number latched.
    let said = c.in-Err.ensures.latched number latched in
    let both : ◌≡◌ {A = Holding g.row.R.Denot × BeginFault} (c.in-Err.queue, c.in-Err.fault) (session_begun c.args.queue, Device number) = cc in
    ap (λ (back : Holding g.row.R.Denot × BeginFault). Err back) both
