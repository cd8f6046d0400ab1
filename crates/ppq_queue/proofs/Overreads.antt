-- Slots of which none was read more often than written.
use Rattle.std.proofs.Common.{◌≡◌, ℕ, ◌≤◌, List, [], ◌∷◌, All, refl, arith}
use Rattle.std.proofs.lemmas.List.Sums.{sum_by-cons}
use Rattle.std.proofs.lemmas.List.Elements.{All-nil, All-cons, All-head, All-tail}
use Rattle.ppq_extract.specs.ppq_outside.Shown.{Shown}
use Rattle.ppq_extract.specs.ppq_array.Kept.{SameSlots, SameSums, overread, all_overreads, all_reads, all_writes}
use Rattle.ppq_queue.specs.Holding.{IsSpent}

-- slot by slot, where none of them was in all
pub spent_each : (slots : List Shown) → all_overreads slots ≡ 0 → All IsSpent slots
spent_each [] none = All-nil IsSpent
spent_each (slot ∷ slots) none =
    let both = sum_by-cons overread slot slots in
    All-cons IsSpent slot slots (omega (arith, both, none)) (spent_each slots (omega (arith, both, none)))

-- and in all
pub spent_all : (slots : List Shown) → All IsSpent slots → all_reads slots ≤ all_writes slots
spent_all [] each = omega arith
spent_all (slot ∷ slots) each =
    omega (
      arith,
      All-head IsSpent slot slots each,
      spent_all slots (All-tail IsSpent slot slots each),
      sum_by-cons (λ (s : Shown). s.reads) slot slots,
      sum_by-cons (λ (s : Shown). s.writes) slot slots,
    )

spent_none : (slots : List Shown) → All IsSpent slots → all_overreads slots ≡ 0
spent_none [] each = refl
spent_none (slot ∷ slots) each =
    omega (arith, All-head IsSpent slot slots each, spent_none slots (All-tail IsSpent slot slots each), sum_by-cons overread slot slots)

-- the same slots later
pub spent_later : (before now : List Shown) → SameSlots before now → All IsSpent before → All IsSpent now
spent_later before now same each = spent_each now (omega (arith, same.overreads, spent_none before each))

-- the same slots as they are, in any order
pub spent_same : (before now : List Shown) → SameSums before now → All IsSpent before → All IsSpent now
spent_same before now same each = spent_each now (omega (arith, same overread, spent_none before each))
