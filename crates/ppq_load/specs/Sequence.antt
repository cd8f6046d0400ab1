-- The records that a seed makes, one by one.
use Rattle.std.specs.Prelude.{◌≡◌, ◌<◌, ◌+◌, ℕ, List, [], ◌∷◌, ◌++◌, length, slice_get, Some}
use Rattle.ppq_record.specs.Given.{next_seed}
use Rattle.ppq_load.specs.Given.{seed_after, made_fields, generated_by}

-- the number of the generator for the record with this number, from 0 on
abbrev pub key_of : ℕ → ℕ → ℕ
key_of seed i = seed_after seed (i + 1)

-- The records of a seed: as many as are asked for, each with the number of the generator for it, its own number and the seed. The generator's
-- numbers follow each other by its step, the first one follows the seed, and of more records fewer are the first
pub record AreGenerated {R : Type 0} (count : ℕ) (of_fields : List ℕ → R) (seed : ℕ) : Type 0 where
  pub first : key_of seed 0 ≡ next_seed seed
  pub next : (i : ℕ) → key_of seed (i + 1) ≡ next_seed (key_of seed i)
  pub many : (n : ℕ) → length (generated_by count of_fields seed n) ≡ n
  pub each : (n i : ℕ) → i < n → slice_get (generated_by count of_fields seed n) i ≡ Some (of_fields (made_fields count (key_of seed i) i seed))
  pub longer : (n : ℕ) → generated_by count of_fields seed (n + 1) ≡ generated_by count of_fields seed n ++ of_fields (made_fields count (key_of seed n) n seed) ∷ []
