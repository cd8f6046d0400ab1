use Rattle.std.proofs.Common.{◌≡◌, ap}
use Rattle.std.specs.Prelude.{Err}
use Rattle.ppq_queue.specs.Holding.{Holding}
use Rattle.ppq_session.specs.declared.fault.BeginFault.{BeginFault}
use Rattle.ppq_session.specs.declared.fault.BeginFault.TheVariants.{Device}
use Rattle.ppq_session.specs.LimitSessions.{begun_in}
use Rattle.ppq_session.proofs.LimitSessions.{going-begin, session-begin}
use Rattle.ppq_session.proofs.limit_session.LimitSession.begin.Goals as goal

pub returns-in-Ok-clause-session : goal.returns-in-Ok-clause-session
returns-in-Ok-clause-session g c =
    session-begin g.S.Slot.shown c.args.queue c.args.limit c.in-Ok.front c.in-Ok.shared c.in-Ok.passes.items c.in-Ok.ensures.begun c.known.ensures.items

pub returns-in-Ok-clause-going : goal.returns-in-Ok-clause-going
returns-in-Ok-clause-going g c = let e = c.in-Ok.ensures.begun in going-begin c.in-Ok.front c.in-Ok.passes.items e.new e.sound

pub returns-in-Ok-clause-latched : goal.returns-in-Ok-clause-latched
returns-in-Ok-clause-latched g c = λ number latched. let said = c.in-Ok.ensures.latched number latched in absurd (cc)

pub returns-in-Err-clause-latched : goal.returns-in-Err-clause-latched
returns-in-Err-clause-latched g c = λ number latched.
    let said = c.in-Err.ensures.latched number latched in
    let both : ◌≡◌ {A = Holding g.row.R.Denot × BeginFault} (c.in-Err.queue, c.in-Err.fault) ((begun_in c.args.queue), Device number) = cc in
    ap (λ (back : Holding g.row.R.Denot × BeginFault). Err back) both
