use Rattle.std.specs.Prelude.{vec_capacity}
use Rattle.std.proofs.Common.{◌≡◌, ◌≤◌, ◌/◌, ◌+◌, length, All}
use Rattle.ppq_session.specs.Outfits.{IsOutfit}
use Rattle.ppq_session.proofs.outfit.outfits.Given as goal

abbrev pub invariant-making : goal.invariant-making
invariant-making g l = record {
  count : length l.all.items ≡ l._worker;
  each : All (IsOutfit (l.pool / l.sizes.heap + 1) (l.sizes.blocks / l.sizes.heap + 1) l.buffers) l.all.items;
  room : l.workers ≤ vec_capacity l.all;
}
