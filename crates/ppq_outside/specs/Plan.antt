-- Which calls are planned to fail.
use Rattle.std.specs.Prelude.{ℕ, Bool, nat_eq, ◌==◌, List, [], ◌∷◌, if◌then◌else◌}
use Rattle.std.specs.List.{list_any}

-- the call with this number is to fail
abbrev pub fails_at : List ℕ → ℕ → Bool
fails_at plan call = list_any (λ planned. nat_eq planned call) plan

-- of pairs of a block's number and the number of a call, the calls of one block
abbrev pub calls_of : List (ℕ × ℕ) → ℕ → List ℕ
calls_of [] block = []
calls_of (failure ∷ plan) block = if failure.0 == block then failure.1 ∷ calls_of plan block else calls_of plan block
