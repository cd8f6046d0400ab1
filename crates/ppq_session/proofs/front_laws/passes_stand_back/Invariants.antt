use Rattle.std.proofs.Common.{All, take}
use Rattle.ppq_session.specs.Limited.{LimitHolding, IsLimited}
use Rattle.ppq_session.proofs.front_laws.passes_stand_back.Given as goal

-- what is known of the passes so far
abbrev pub invariant-loop-i : goal.invariant-loop-i
invariant-loop-i g l = All (λ (p : LimitHolding g.row.S.Denot g.row.R.Denot). IsLimited g.S.Slot.shown g.R.Ord.cmp p.limit p.pass) (take l.i l.passes)
