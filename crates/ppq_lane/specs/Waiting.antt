-- A work that waits until it is done.
use Rattle.std.specs.Prelude.{Option, Some, None}

-- there is one, and this holds of it
abbrev pub SomeWith : {X : Type 0} → (X → Type 0) → Option X → Type 0
SomeWith P None = ⊥
SomeWith P (Some x) = P x

-- there was one, and it gave this
abbrev pub GaveOnce : {X Y : Type 0} → (X → Y → Type 0) → Option X → Y → Type 0
GaveOnce R None y = ⊥
GaveOnce R (Some x) y = R x y
