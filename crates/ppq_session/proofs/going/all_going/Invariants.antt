use Rattle.std.proofs.Common.{All, take}
use Rattle.ppq_session.specs.Dealing.{IsGoing}
use Rattle.ppq_session.proofs.going.all_going.Given as goal

abbrev pub invariant-loop-i : goal.invariant-loop-i
invariant-loop-i g l = All (λ p. IsGoing (g.P.SessionPass.pass p)) (take l.i l.passes)
