-- Blocks that come back are those that were new, as far as bytes and reads go: where each number comes once, each has its bytes still.
use Rattle.std.proofs.Common.{◌≡◌, ℕ, zero, suc, ◌+◌, ◌<◌, ◌≤◌, Bool, true, false, cond, List, [], ◌∷◌, All, map, refl, ap, ◌∙◌, arith, inl, inr, eq-eqb}
use Rattle.std.specs.Prelude.{◌==◌}
use Rattle.std.specs.List.{range_with_len}
use Rattle.std.proofs.lemmas.Bool.{cases_eq, ne_eqb}
use Rattle.std.proofs.lemmas.List.Elements.{All-nil, All-cons, All-head, All-tail}
use Rattle.std.proofs.lemmas.List.Sums.{sum_by-cons}
use Rattle.ppq_script.specs.ppq_outside.Shown.{Shown}
use Rattle.ppq_load.specs.ppq_array.Kept.{SameSlots, weight_at, times_of, sizes_at, overread, all_overreads}
use Rattle.ppq_load.specs.ppq_array.Supply.{IsSlot}
use Rattle.ppq_load.specs.ppq_queue.Holding.{IsNewSlot, IsSpent}
use Rattle.ppq_load.proofs.ppq_queue.Overreads.{spent_each}

-- a weight of a slot with another number is none
no_weight : (here : Bool) (weight : ℕ) → ◌≡◌ {A = ℕ} (cond here 1 0) 0 → cond here weight 0 ≡ 0
no_weight true weight none = let other : 1 ≡ 0 = none in absurd (omega (arith, other))
no_weight false weight none = refl

one_weight : (here : Bool) → cond here 1 0 ≤ 1
one_weight true = omega arith
one_weight false = omega arith

-- slots with a number that does not come have no bytes
absent : (n : ℕ) (slots : List Shown) → times_of n slots ≡ 0 → sizes_at n slots ≡ 0
absent n [] none = refl
absent n (s ∷ slots) none =
    let times = sum_by-cons (weight_at (λ (t : Shown). 1) n) s slots in
    let sizes = sum_by-cons (weight_at (λ (t : Shown). t.size) n) s slots in
    let here = no_weight (s.number == n) s.size (omega (arith, times, none)) in
    omega (arith, sizes, here, absent n slots (omega (arith, times, none)))

-- one slot has the number, this one or one of the others
one_of : (here : Bool) (size times sizes bytes : ℕ) → size ≡ bytes → cond here 1 0 + times ≤ 1 → 1 ≤ cond here 1 0 + times → (times ≡ 0 → sizes ≡ 0) → (1 ≤ times → sizes ≡ bytes) → cond here size 0 + sizes ≡ bytes
one_of true size times sizes bytes same most some none rest = let few : 1 + times ≤ 1 = most in omega (arith, same, none (omega (arith, few)))
one_of false size times sizes bytes same most some none rest = let more : 1 ≤ 0 + times = some in omega (arith, rest (omega (arith, more)))

-- of new slots, each with its number, the one with this number has its bytes
new_size : (bytes : ℕ) (slots : List Shown) → All (IsNewSlot bytes) slots → ((n : ℕ) → times_of n slots ≤ 1) → (n : ℕ) → 1 ≤ times_of n slots → sizes_at n slots ≡ bytes
new_size bytes [] new once n some = let none : 1 ≤ 0 = some in absurd (omega (arith, none))
new_size bytes (s ∷ slots) new once n some =
    let times : (k : ℕ) → times_of k (s ∷ slots) ≡ cond (s.number == k) 1 0 + times_of k slots = λ k. sum_by-cons (weight_at (λ (t : Shown). 1) k) s slots in
    let fewer : (k : ℕ) → times_of k slots ≤ 1 = λ k. omega (arith, times k, once k) in
    sum_by-cons (weight_at (λ (t : Shown). t.size) n) s slots
    ∙ one_of (s.number == n) s.size (times_of n slots) (sizes_at n slots) bytes (All-head (IsNewSlot bytes) s slots new).size (omega (arith, times n, once n)) (omega (arith, times n, some)) (absent n slots)
    (new_size bytes slots (All-tail (IsNewSlot bytes) s slots new) fewer n)

-- where by number each has so many bytes, so it is slot by slot
each_size :
    (bytes : ℕ) (slots : List Shown) → ((n : ℕ) → times_of n slots ≤ 1) → ((n : ℕ) → 1 ≤ times_of n slots → sizes_at n slots ≡ bytes) → All IsSpent slots
    → All (IsSlot bytes) slots
each_size bytes [] once sizes spent = All-nil (IsSlot bytes)
each_size bytes (s ∷ slots) once sizes spent =
    let times : (k : ℕ) → times_of k (s ∷ slots) ≡ cond (s.number == k) 1 0 + times_of k slots = λ k. sum_by-cons (weight_at (λ (t : Shown). 1) k) s slots in
    let weights : (k : ℕ) → sizes_at k (s ∷ slots) ≡ cond (s.number == k) s.size 0 + sizes_at k slots = λ k. sum_by-cons (weight_at (λ (t : Shown). t.size) k) s slots in
    let here : ◌≡◌ {A = ℕ} (cond (s.number == s.number) 1 0) 1 = ap (λ b. cond b 1 0) (eq-eqb s.number s.number refl) in
    let size_here : cond (s.number == s.number) s.size 0 ≡ s.size = ap (λ b. cond b s.size 0) (eq-eqb s.number s.number refl) in
    let alone : times_of s.number slots ≡ 0 = omega (arith, times s.number, once s.number, here) in
    let whole : sizes_at s.number (s ∷ slots) ≡ bytes = sizes s.number (omega (arith, times s.number, here)) in
    let size : s.size ≡ bytes = omega (arith, weights s.number, whole, size_here, absent s.number slots alone) in
    All-cons (IsSlot bytes) s slots (record { size = size; spent = All-head IsSpent s slots spent })
    (each_size bytes slots (λ k. omega (arith, times k, once k))
    (λ k some.
    let other = no_weight (s.number == k) s.size (omega (arith, times k, once k, some)) in
    omega (arith, weights k, other, sizes k (omega (arith, times k, some))))
    (All-tail IsSpent s slots spent))

-- so it is with slots that are new
pub new_slots_are : (bytes : ℕ) (slots : List Shown) → All (IsNewSlot bytes) slots → All (IsSlot bytes) slots
new_slots_are bytes [] new = All-nil (IsSlot bytes)
new_slots_are bytes (s ∷ slots) new =
    let first = All-head (IsNewSlot bytes) s slots new in
    All-cons (IsSlot bytes) s slots (record { size = first.size; spent = omega (arith, first.no_read) }) (new_slots_are bytes slots (All-tail (IsNewSlot bytes) s slots new))

-- of these none was read more often than written
new_overreads : (bytes : ℕ) (slots : List Shown) → All (IsNewSlot bytes) slots → all_overreads slots ≡ 0
new_overreads bytes [] new = refl
new_overreads bytes (s ∷ slots) new =
    let first = All-head (IsNewSlot bytes) s slots new in
    omega (arith, sum_by-cons overread s slots, first.no_read, new_overreads bytes slots (All-tail (IsNewSlot bytes) s slots new))

-- slots that are numbered in order have each number once at the most, and none below the first
abbrev first_of : List ℕ → ℕ
first_of [] = 0
first_of (n ∷ ns) = n

abbrev rest_of : List ℕ → List ℕ
rest_of [] = []
rest_of (n ∷ ns) = ns

no_number : (n : ℕ) (ns : List ℕ) → n ∷ ns ≡ [] → ⊥
no_number n ns is = cc

numbered_once : (from count : ℕ) (slots : List Shown) → map (λ s. s.number) slots ≡ range_with_len from count → (n : ℕ) → (times_of n slots ≤ 1) × (n < from → times_of n slots ≡ 0)
numbered_once from count [] is n = (omega arith, λ below. refl)
numbered_once from zero (s ∷ slots) is n = absurd (no_number s.number (map (λ s. s.number) slots) is)
numbered_once from (suc count) (s ∷ slots) is n =
    let first : s.number ≡ from = ap first_of is in
    let behind : map (λ s. s.number) slots ≡ range_with_len (from + 1) count = ap rest_of is in
    let times : times_of n (s ∷ slots) ≡ cond (s.number == n) 1 0 + times_of n slots = sum_by-cons (weight_at (λ (t : Shown). 1) n) s slots in
    let rest = numbered_once (from + 1) count slots behind n in
    elim (cases_eq s.number n) as (λ _. (times_of n (s ∷ slots) ≤ 1) × (n < from → times_of n (s ∷ slots) ≡ 0)) [
      | inl e ↦ let none : times_of n slots ≡ 0 = rest.1 (omega (arith, first, e)) in (omega (arith, times, none, one_weight (s.number == n)), λ below. absurd (omega (arith, below, e, first)))
      | inr ne ↦ let miss : ◌≡◌ {A = ℕ} (cond (s.number == n) 1 0) 0 = ap (λ b. cond b 1 0) (ne_eqb s.number n ne) in (omega (arith, times, miss, rest.0), λ below. omega (arith, times, miss, rest.1 (omega (arith, below))))
    ]

-- blocks of so many bytes that were new, numbered from 0 in order, have these bytes when they come back, and none was read more often than written
pub blocks_back :
    (bytes count : ℕ) (first later : List Shown) → map (λ s. s.number) first ≡ range_with_len 0 count → All (IsNewSlot bytes) first → SameSlots first later
    → All (IsSlot bytes) later
blocks_back bytes count first later numbers new same =
    let once : (n : ℕ) → times_of n first ≤ 1 = λ n. (numbered_once 0 count first numbers n).0 in
    let none : all_overreads later ≡ 0 = omega (arith, same.overreads, new_overreads bytes first new) in
    each_size bytes later (λ n. omega (arith, same.each_once n, once n)) (λ n some. same.sizes n ∙ new_size bytes first new once n (omega (arith, same.each_once n, some))) (spent_each later none)
