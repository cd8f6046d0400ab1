-- Records that come as bytes, and a step of the generator of records.
use Rattle.std.specs.Prelude.{ℕ, zero, suc, ◌+◌, ◌*◌, ◌%◌, ◌^◌, List, [], ◌∷◌, take, drop}

-- the records of the first n pieces of so many bytes
abbrev pub records_from : {R : Type 0} → (List ℕ → R) → ℕ → ℕ → List ℕ → List R
records_from record_of width zero bytes = []
records_from record_of width (suc n) bytes = record_of (take width bytes) ∷ records_from record_of width n (drop width bytes)

-- a step of the generator: Knuth's MMIX step modulo 2^64
abbrev pub next_seed : ℕ → ℕ
next_seed x = (x * 6364136223846793005 + 1442695040888963407) % 2 ^ 64
