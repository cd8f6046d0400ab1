use Rattle.std.proofs.Common.{◌≡◌, ◌+◌, ℕ, length, take, ◌++◌}
use Rattle.ppq_outside.specs.Forged.{forged}
use Rattle.ppq_outside.proofs.forged.forge.Given as goal

abbrev pub invariant-loop-i : goal.invariant-loop-i
invariant-loop-i l = (n : ℕ) → l.i + n ≡ length l.into → take l.i l.into ++ forged l.state n ≡ forged l.fn.seed (length l.fn.into)
