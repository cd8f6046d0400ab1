-- The records that a seed makes, one by one.
use Rattle.std.proofs.Common.{◌≡◌, ℕ, zero, suc, ◌+◌, ◌<◌, ◌≤◌, List, [], ◌∷◌, ◌++◌, length, Some, refl, sym, ap, ap₂, ◌∙◌, arith, length-take}
use Rattle.std.specs.Prelude.{slice_get}
use Rattle.ppq_record.specs.Given.{next_seed}
use Rattle.ppq_load.specs.Given.{seed_after, made_fields, generated_from_by, generated_by}
use Rattle.ppq_load.specs.Sequence.{AreGenerated}
use Rattle.ppq_load.proofs.Generated.{length-generated}

-- a step more is the step of the number before
seed-next : (seed n : ℕ) → seed_after seed (suc n) ≡ next_seed (seed_after seed n)
seed-next seed zero = refl
seed-next seed (suc n) = seed-next (next_seed seed) n

plus-one : (n : ℕ) → n + 1 ≡ suc n
plus-one n = omega arith

zero-plus : (n : ℕ) → 0 + n ≡ n
zero-plus n = omega arith

module _ {R : Type 0} (count : ℕ) (of_fields : List ℕ → R) (seed : ℕ) where
  abbrev made : ℕ → ℕ → R
  made key i = of_fields (made_fields count key i seed)

  each-from : (x first n i : ℕ) → i < n → slice_get (generated_from_by count of_fields seed x first n) i ≡ Some (made (seed_after x (suc i)) (first + i))
  each-from x first zero i h = absurd (omega (arith, h))
  each-from x first (suc n) zero h = let e : first ≡ first + 0 = omega arith in ap (λ (j : ℕ). Some (made (next_seed x) j)) e
  each-from x first (suc n) (suc i) h = let e : first + 1 + i ≡ first + suc i = omega arith in each-from (next_seed x) (first + 1) n i (omega (arith, h)) ∙ ap (λ (j : ℕ). Some (made (seed_after (next_seed x) (suc i)) j)) e

  longer-from : (x first n : ℕ) → generated_from_by count of_fields seed x first (suc n) ≡ generated_from_by count of_fields seed x first n ++ made (seed_after x (suc n)) (first + n) ∷ []
  longer-from x first zero = let e : first ≡ first + 0 = omega arith in ap (λ (j : ℕ). made (next_seed x) j ∷ []) e
  longer-from x first (suc n) =
      let e : first + 1 + n ≡ first + suc n = omega arith in
      ap (λ (t : List R). made (next_seed x) first ∷ t)
      (longer-from (next_seed x) (first + 1) n ∙ ap (λ (j : ℕ). generated_from_by count of_fields seed (next_seed x) (first + 1) n ++ made (seed_after (next_seed x) (suc n)) j ∷ []) e)

  pub are-generated : AreGenerated count of_fields seed
  are-generated = record {
    first = refl;
    next = λ i. ap (seed_after seed) (plus-one (i + 1)) ∙ seed-next seed (i + 1);
    many = λ n. length-generated count of_fields seed seed 0 n;
    each = λ n i h. each-from seed 0 n i h ∙ ap₂ (λ (k j : ℕ). Some (made (seed_after seed k) j)) (sym (plus-one i)) (zero-plus i);
    longer = λ n. ap (generated_by count of_fields seed) (plus-one n) ∙ longer-from seed 0 n ∙ ap₂ (λ (k j : ℕ). generated_by count of_fields seed n ++ made (seed_after seed k) j ∷ []) (sym (plus-one n)) (zero-plus n);
  }

-- as many fields as a record has
pub length-made : (count key i seed : ℕ) → count ≤ 8 → length (made_fields count key i seed) ≡ count
length-made count key i seed few = omega (arith, few, length-take count (key ∷ i ∷ seed ∷ 0 ∷ 0 ∷ 0 ∷ 0 ∷ 0 ∷ []))
