-- Bytes that a block gives which were never written to it.
use Rattle.std.specs.Prelude.{ℕ, zero, suc, ◌/◌, ◌^◌, List, [], ◌∷◌}
use Rattle.ppq_record.specs.Given.{next_seed}

-- the highest byte of each of the first n states of the generator after x
abbrev pub forged : ℕ → ℕ → List ℕ
forged x zero = []
forged x (suc n) = next_seed x / 2 ^ 56 ∷ forged (next_seed x) n
