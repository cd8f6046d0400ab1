use Rattle.std.proofs.Common.{◌∙◌}
use Rattle.ppq_session.specs.Dealing.{IsGoing}
use Rattle.ppq_session.proofs.Adding.{adds-one, adds-refused, refused-ended, says-going, says-ended}
use Rattle.ppq_session.proofs.LimitSessions.{limited-pushed}
use Rattle.ppq_session.proofs.lines.push_one.Goals as goal

pub returns-in-Ok : goal.returns-in-Ok
returns-in-Ok g c =
    let shown = g.S.Slot.shown in
    let old = c.args.pass.now in
    let new = c.push.new.self in
    let e = c.push.ensures in
    let ok = c.in-Ok.ensures in
    let going : IsGoing new = record { unrefused = ok.same ∙ c.requires.going.unrefused; sound = ok.sound } in
    record {
      takes = record {
        adds = adds-one shown c.args.r old new e.key e.tells going ok.added ok.accepted ok.counted.backed;
        limits = λ limit none is. limited-pushed shown g.R.Ord.cmp limit old new c.args.r is none.0 e.key c.push.result e.added e.refused e.latched e.tells;
      };
      says = says-going new going;
    }

pub returns-in-Err : goal.returns-in-Err
returns-in-Err g c =
    let shown = g.S.Slot.shown in
    let old = c.args.pass.now in
    let new = c.push.new.self in
    let e = c.push.ensures in
    let fault = c.in-Err.field-0.1 in
    let refused = c.in-Err.ensures.refused in
    record {
      takes = record {
        adds = adds-refused shown c.args.r old new e.key e.tells fault refused c.in-Err.ensures.counted.unbacked;
        limits = λ limit none is. limited-pushed shown g.R.Ord.cmp limit old new c.args.r is none.0 e.key c.push.result e.added e.refused e.latched e.tells;
      };
      says = says-ended new (refused-ended old new fault refused);
    }
