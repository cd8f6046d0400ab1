use Rattle.std.proofs.Common.{◌≡◌, map, reverse, take}
use Rattle.ppq_session.specs.Ends.{first_some}
use Rattle.ppq_session.specs.declared.brought.Brought.{Brought}
use Rattle.ppq_session.proofs.gather.first_fault.Given as goal

abbrev pub invariant-loop-one : goal.invariant-loop-one
invariant-loop-one g l = l.first ≡ first_some (map (λ (one : Brought g.row.S.Denot g.row.R.Denot). one.failed) (reverse (take l.one-index l.brought))) l.fn.other
