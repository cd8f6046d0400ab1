use Rattle.std.proofs.Common.{◌≡◌, ℕ, ◌*◌}
use Rattle.ppq_load.specs.Given.{seed_after}
use Rattle.ppq_load.proofs.Strides.{IsStride}
use Rattle.ppq_load.proofs.generator.key_behind.Given as goal

abbrev pub invariant-squaring : goal.invariant-squaring
invariant-squaring l = record {
  steps : ℕ;
  stride : IsStride steps l.factor l.shift;
  left : seed_after l.last (l.left * steps) ≡ seed_after l.fn.key l.fn.steps;
}

abbrev pub decreases-squaring : goal.decreases-squaring
decreases-squaring l = l.left
