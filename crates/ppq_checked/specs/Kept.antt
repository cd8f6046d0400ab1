-- A slot that keeps the sum of what was written.
use Rattle.std.specs.Prelude.{◌≡◌, ℕ, ◌+◌, ◌-◌, ◌^◌, List, Option, Some, None, min, ⊤}
use Rattle.ppq_outside.specs.Shown.{Shown}
use Rattle.ppq_checked.specs.Sums.{sum_of}

-- such a slot: the slot inside, the sum of the bytes that it was last given if that write returned Ok, how many reads returned Ok, and
-- how many gave bytes of another sum, or were made while none was kept
pub record CheckedState (S : Type 0) : Type 0 where
  pub inside : S
  pub sum : Option ℕ
  pub reads : ℕ
  pub differed : ℕ

-- what it shows, over what the slot inside shows: a read that it refused is one more failed call, and no read that returned Ok
abbrev pub shown_over : {S : Type 0} → (S → Shown) → CheckedState S → Shown
shown_over shown slot = record (shown slot.inside) {
  faults = min ((shown slot.inside).faults + slot.differed) (2 ^ 64 - 1);
  reads = slot.reads;
}

-- a sum is kept, and bytes have it
abbrev pub HasSum : Option ℕ → List ℕ → Type 0
HasSum None bytes = ⊥
HasSum (Some kept) bytes = sum_of bytes ≡ kept

-- if a slot tells, and a sum is kept, the bytes that it was given have that sum
abbrev pub HoldsSum : Option ℕ → Option (List ℕ) → Type 0
HoldsSum None given = ⊤
HoldsSum (Some kept) None = ⊤
HoldsSum (Some kept) (Some given) = sum_of given ≡ kept
