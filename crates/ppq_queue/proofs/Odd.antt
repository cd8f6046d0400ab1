-- Runs in blocks that are odd: their records do not just fill their stored blocks.
use Rattle.std.proofs.Common.{◌≡◌, ℕ, ◌+◌, ◌*◌, ◌<◌, ◌≤◌, ◌==◌, cond, List, [], ◌∷◌, length, sum_by, All, refl, sym, ap, ◌∙◌, arith, inl, inr}
use Rattle.std.specs.Prelude.{◌⊎◌}
use Rattle.std.proofs.Math.Nat.{zero-mul, add-mul, mul-le-mul_right, lt_of_mul-lt-mul_right}
use Rattle.std.proofs.lemmas.Bool.Decides.{nat_tests}
use Rattle.std.proofs.lemmas.List.Sums.{sum_by-cons}
use Rattle.std.proofs.lemmas.List.Elements.{All-head, All-tail}
use Rattle.ppq_extract.specs.ppq_outside.Shown.{Shown}
use Rattle.ppq_extract.specs.ppq_array.declared.berth.DeviceBlock.{DeviceBlock}
use Rattle.ppq_extract.specs.ppq_array.Run.{items_of}
use Rattle.ppq_extract.specs.ppq_array.External.{External, size_of}
use Rattle.ppq_extract.specs.ppq_fetch.Fetching.{blocks_in}
use Rattle.ppq_queue.specs.Resting.{IsRestingArray, odd_of, odd_in}
use Rattle.ppq_queue.proofs.Amounts.{counts_fit, counts_full, waiting_is}

-- a test of two numbers
differ_le : (a b : ℕ) → ◌≤◌ (cond (a == b) 0 1) 1
differ_le a b = grind (arith, nat_tests)

pub same_none : (a b : ℕ) → a ≡ b → ◌≡◌ {A = ℕ} (cond (a == b) 0 1) 0
same_none a b e = grind (arith, nat_tests)

none_same : (a b : ℕ) → ◌≡◌ {A = ℕ} (cond (a == b) 0 1) 0 → a ≡ b
none_same a b e = grind (arith, nat_tests)

zero_or_one : (k : ℕ) → k ≤ 1 → (k ≡ 0) ⊎ (k ≡ 1)
zero_or_one k h = grind arith

module _ {S R : Type 0} (block : ℕ) where
  odd_le : (x : External S R) → odd_of block x ≤ 1
  odd_le x = differ_le (size_of x) (length x.stored * block)

  -- no more runs are odd than there are
  pub odd_most : (arrays : List (External S R)) → odd_in block arrays ≤ length arrays
  odd_most [] = omega arith
  odd_most (x ∷ xs) = omega (arith, odd_le x, odd_most xs, sum_by-cons (odd_of block) x xs)

  -- runs none of which is odd just fill their blocks
  even_full : (arrays : List (External S R)) → odd_in block arrays ≡ 0 → sum_by size_of arrays ≡ blocks_in arrays * block
  even_full [] h = sym (zero-mul block)
  even_full (x ∷ xs) h =
      let odd = sum_by-cons (odd_of block) x xs in
      let here : size_of x ≡ length x.stored * block = none_same (size_of x) (length x.stored * block) (omega (arith, h, odd)) in
      let more = even_full xs (omega (arith, h, odd)) in
      let blocks : blocks_in (x ∷ xs) * block ≡ length x.stored * block + blocks_in xs * block = ap (λ n. n * block) (sum_by-cons (λ (y : External S R). length y.stored) x xs) ∙ add-mul (length x.stored) (blocks_in xs) block in
      omega (arith, here, more, blocks, sum_by-cons (λ (y : External S R). size_of y) x xs)

  module _ (shown : S → Shown) (width : ℕ) where
    -- stored blocks have no room for a block more than the run's records, and none at all where it is not odd
    pub stored_full : (x : External S R) → IsRestingArray shown width block x → length x.stored * block ≤ size_of x + odd_of block x * block
    stored_full x is =
        elim (zero_or_one (odd_of block x) (odd_le x)) as (λ _. length x.stored * block ≤ size_of x + odd_of block x * block) [
          | inl even ↦ omega (arith, none_same (size_of x) (length x.stored * block) even)
          | inr odd ↦ omega (arith, counts_full block x.stored is.packed.full, waiting_is x is.lifted, ap (λ k. k * block) odd)
        ]

    -- a run that is not odd has a stored block
    one_block : (x : External S R) → IsRestingArray shown width block x → 1 ≤ odd_of block x + length x.stored
    one_block x is =
        elim (zero_or_one (odd_of block x) (odd_le x)) as (λ _. 1 ≤ odd_of block x + length x.stored) [
          | inl even ↦ by_stored x.stored refl (none_same (size_of x) (length x.stored * block) even)
          | inr odd ↦ omega (arith, odd)
        ]
      where
        by_stored : (stored : List (DeviceBlock S R)) → stored ≡ x.stored → size_of x ≡ length x.stored * block → 1 ≤ odd_of block x + length x.stored
        by_stored [] e full = absurd (omega (arith, full, is.some, ap (λ (l : List (DeviceBlock S R)). length l * block) e, zero-mul block))
        by_stored (b ∷ bs) e full = omega (arith, ap length e)

    -- there are no more runs than odd ones and stored blocks
    pub runs_most : (arrays : List (External S R)) → All (IsRestingArray shown width block) arrays → length arrays ≤ odd_in block arrays + blocks_in arrays
    runs_most [] all = omega arith
    runs_most (x ∷ xs) all =
        omega (
          arith,
          one_block x (All-head (IsRestingArray shown width block) x xs all),
          runs_most xs (All-tail (IsRestingArray shown width block) x xs all),
          sum_by-cons (odd_of block) x xs,
          sum_by-cons (λ (y : External S R). length y.stored) x xs,
        )

    -- stored blocks have room for no more than the records and a block for each odd run
    pub arrays_full : (arrays : List (External S R)) → All (IsRestingArray shown width block) arrays → blocks_in arrays * block ≤ sum_by size_of arrays + odd_in block arrays * block
    arrays_full [] all = omega arith
    arrays_full (x ∷ xs) all =
        let here = stored_full x (All-head (IsRestingArray shown width block) x xs all) in
        let more = arrays_full xs (All-tail (IsRestingArray shown width block) x xs all) in
        let blocks : blocks_in (x ∷ xs) * block ≡ length x.stored * block + blocks_in xs * block = ap (λ n. n * block) (sum_by-cons (λ (y : External S R). length y.stored) x xs) ∙ add-mul (length x.stored) (blocks_in xs) block in
        let odd : odd_in block (x ∷ xs) * block ≡ odd_of block x * block + odd_in block xs * block = ap (λ n. n * block) (sum_by-cons (odd_of block) x xs) ∙ add-mul (odd_of block x) (odd_in block xs) block in
        omega (arith, here, more, blocks, odd, sum_by-cons (λ (y : External S R). size_of y) x xs)

    -- a run that has all records of others, with nothing loaded and as few blocks as they fill, is odd only where one of them is
    pub odd_made :
        (made : External S R) (inputs : List (External S R))
        → IsRestingArray shown width block made → items_of made.loaded ≡ [] → size_of made ≡ sum_by size_of inputs → length made.stored * block < size_of made + block
        → odd_of block made ≤ odd_in block inputs
    odd_made made inputs is none size blocks = by_odd (odd_in block inputs) refl
      where
        zero_or_some : (k : ℕ) → (k ≡ 0) ⊎ (1 ≤ k)
        zero_or_some k = grind arith

        even : odd_in block inputs ≡ 0 → odd_of block made ≡ 0
        even h =
            let full = even_full inputs h in
            let k = length made.stored in
            let more = add-mul (blocks_in inputs) 1 block in
            let few : k < blocks_in inputs + 1 = lt_of_mul-lt-mul_right block (omega (arith, blocks, size, full, more)) in
            let most : k * block ≤ blocks_in inputs * block = mul-le-mul_right block (omega (arith, few)) in
            let fits = counts_fit block made.stored is.packed.last in
            same_none (size_of made) (k * block) (omega (arith, size, full, most, fits, waiting_is made is.lifted, ap length none))

        by_odd : (odd : ℕ) → odd ≡ odd_in block inputs → odd_of block made ≤ odd_in block inputs
        by_odd odd e = elim (zero_or_some odd) as (λ _. odd_of block made ≤ odd_in block inputs) [
          | inl h ↦ omega (arith, even (sym e ∙ h))
          | inr h ↦ omega (arith, odd_le made, h, e)
        ]
