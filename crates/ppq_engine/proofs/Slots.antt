-- Slots of which no call failed.
use Rattle.std.proofs.Common.{◌≡◌, ℕ, List, [], ◌∷◌, All, refl, arith}
use Rattle.std.proofs.lemmas.List.Elements.{All-nil, All-cons, All-head, All-tail}
use Rattle.std.proofs.lemmas.List.Sums.{sum_by-cons}
use Rattle.ppq_script.specs.ppq_outside.Shown.{Shown}
use Rattle.ppq_load.specs.ppq_array.Kept.{all_faults, all_writes}
use Rattle.ppq_load.specs.ppq_queue.Holding.{IsNewSlot, IsSpent}

-- of new slots no call failed
pub new-unfailed : (bytes : ℕ) (slots : List Shown) → All (IsNewSlot bytes) slots → all_faults slots ≡ 0
new-unfailed bytes [] fresh = refl
new-unfailed bytes (s ∷ slots) fresh =
    let first = All-head (IsNewSlot bytes) s slots fresh in
    omega (arith, sum_by-cons (λ (t : Shown). t.faults) s slots, first.no_fault, new-unfailed bytes slots (All-tail (IsNewSlot bytes) s slots fresh))

-- nor was one of them written, or read more often than that
pub new-unused : (bytes : ℕ) (slots : List Shown) → All (IsNewSlot bytes) slots → (all_writes slots ≡ 0) × All IsSpent slots
new-unused bytes [] fresh = (refl, All-nil IsSpent)
new-unused bytes (s ∷ slots) fresh =
    let first = All-head (IsNewSlot bytes) s slots fresh in
    let rest = new-unused bytes slots (All-tail (IsNewSlot bytes) s slots fresh) in
    (omega (arith, sum_by-cons (λ (t : Shown). t.writes) s slots, first.no_write, rest.0), All-cons IsSpent s slots (omega (arith, first.no_read)) rest.1)

-- where no call failed, none of any slot did
pub none-failed : (slots : List Shown) → all_faults slots ≡ 0 → All (λ (s : Shown). s.faults ≡ 0) slots
none-failed [] none = All-nil (λ (s : Shown). s.faults ≡ 0)
none-failed (s ∷ slots) none =
    let sum = sum_by-cons (λ (t : Shown). t.faults) s slots in
    All-cons (λ (t : Shown). t.faults ≡ 0) s slots (omega (arith, sum, none)) (none-failed slots (omega (arith, sum, none)))
