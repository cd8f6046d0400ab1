-- Records that come as a file's bytes or from a seed.
use Rattle.std.specs.Prelude.{ℕ, zero, suc, ◌+◌, ◌/◌, List, [], ◌∷◌, length, take}
use Rattle.ppq_record.specs.Given.{records_from, next_seed}

-- the number of the generator after so many steps
abbrev pub seed_after : ℕ → ℕ → ℕ
seed_after seed zero = seed
seed_after seed (suc n) = seed_after (next_seed seed) n

-- so many fields of a generated record: the number of the generator, how many records were made before, the seed, and zeros
abbrev pub made_fields : ℕ → ℕ → ℕ → ℕ → List ℕ
made_fields count key number seed = take count (key ∷ number ∷ seed ∷ 0 ∷ 0 ∷ 0 ∷ 0 ∷ 0 ∷ [])

module _ {R : Type 0} where
  -- the records of a file, of so many bytes each
  abbrev pub records_of : (List ℕ → R) → ℕ → List ℕ → List R
  records_of record_of width bytes = records_from record_of width (length bytes / width) bytes

  -- n generated records of so many fields, from number i on, where x is the generator's number before them
  abbrev pub generated_from_by : ℕ → (List ℕ → R) → ℕ → ℕ → ℕ → ℕ → List R
  generated_from_by count of_fields seed x i zero = []
  generated_from_by count of_fields seed x i (suc n) = of_fields (made_fields count (next_seed x) i seed) ∷ generated_from_by count of_fields seed (next_seed x) (i + 1) n

  -- the first n of a seed
  abbrev pub generated_by : ℕ → (List ℕ → R) → ℕ → ℕ → List R
  generated_by count of_fields seed n = generated_from_by count of_fields seed seed 0 n
