use Rattle.std.proofs.Common.{◌≡◌, ◌+◌, length, All}
use Rattle.std.specs.Prelude.{vec_capacity}
use Rattle.ppq_session.specs.Bringing.{IsShareOf}
use Rattle.ppq_session.specs.SessionPass.{KeepsLimit}
use Rattle.ppq_session.proofs.Brings.{Came}
use Rattle.ppq_session.proofs.bringing.bring_all.Given as goal

abbrev pub invariant-bringing : goal.invariant-bringing
invariant-bringing g l = record {
  came : Came g.S.Slot.shown g.R.Record.record_of g.R.Record.WIDTH l.fn.parts.sizes g.R.Ord.cmp g.P.SessionPass.pass (λ p. KeepsLimit g.S.Slot.shown g.R.Ord.cmp (g.P.SessionPass.limit p) (g.P.SessionPass.pass p)) l.fn.passes.items l.passes.items l.fn.parts l.parts;
  of : All (λ p. IsShareOf l.shared l.fn.parts.sizes (g.P.SessionPass.pass p)) l.passes.items;
  room : length l.parts.brought.items + length l.passes.items ≡ length l.fn.parts.brought.items + length l.fn.passes.items;
  capacity : vec_capacity l.parts.brought ≡ vec_capacity l.fn.parts.brought;
}

abbrev pub decreases-bringing : goal.decreases-bringing
decreases-bringing g l = length l.passes.items
