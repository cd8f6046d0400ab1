-- How a sum over all views changes when one view changes, one is added, or one has all that counts.
use Rattle.std.proofs.Common.{◌≡◌, ◌≢◌, ℕ, zero, suc, ◌+◌, ◌<◌, ◌≤◌, List, [], ◌∷◌, ◌++◌, length, set, sym, refl, ap, subst, arith}
use mathlib.Core.Option.{some, some-injective, some-ne-none}
use lib.ListN.{get_elem?}
use Rattle.ppq_table.specs.Sums.{total}

module _ {A : Type 0} where
  -- what stands in a list of one
  pub at_only : (P : A → Type 0) (a : A) → P a → (j : ℕ) (b : A) → get_elem? (a ∷ []) j ≡ some b → P b
  at_only P a h zero b e = subst P (some-injective a b e) h
  at_only P a h (suc j) b e = absurd (some-ne-none b (sym e))

  -- the element at a place within the list
  pub at_within : (xs : List A) (i : ℕ) → i < length xs → (x : A) × (get_elem? xs i ≡ some x)
  at_within [] i h = absurd (omega arith)
  at_within (x ∷ xs) zero h = (x, refl)
  at_within (x ∷ xs) (suc i) h = at_within xs i (omega arith)

  -- a place at which something stands is within the list
  pub within_at : (xs : List A) (i : ℕ) (x : A) → get_elem? xs i ≡ some x → i < length xs
  within_at [] i x e = absurd (some-ne-none x (sym e))
  within_at (y ∷ xs) zero x e = omega arith
  within_at (y ∷ xs) (suc i) x e = omega (arith, within_at xs i x e)

module _ {V : Type 0} where
  -- one view changes
  pub total-set : (f : V → ℕ) (vs : List V) (i : ℕ) (v w : V) → get_elem? vs i ≡ some v → total f (set vs i w) + f v ≡ total f vs + f w
  total-set f [] i v w e = absurd (some-ne-none v (sym e))
  total-set f (x ∷ xs) zero v w e = let same : f x ≡ f v = ap f (some-injective x v e) in omega arith
  total-set f (x ∷ xs) (suc i) v w e = omega (arith, total-set f xs i v w e)

  -- one view is added
  pub total-snoc : (f : V → ℕ) (vs : List V) (w : V) → total f (vs ++ w ∷ []) ≡ total f vs + f w
  total-snoc f [] w = omega arith
  total-snoc f (x ∷ xs) w = omega (arith, total-snoc f xs w)

  -- one view is cut in two, which count what it did
  pub total-split : (f : V → ℕ) (vs : List V) (i : ℕ) (v left right : V) → get_elem? vs i ≡ some v → f left + f right ≡ f v → total f (set vs i left ++ right ∷ []) ≡ total f vs
  total-split f vs i v left right at e = omega (arith, total-snoc f (set vs i left) right, total-set f vs i v left at)

  -- two views change
  pub total-set_two : (f : V → ℕ) (vs : List V) (i j : ℕ) (v w a b : V) → get_elem? vs i ≡ some v → get_elem? (set vs i a) j ≡ some w → total f (set (set vs i a) j b) + f v + f w ≡ total f vs + f a + f b
  total-set_two f vs i j v w a b at at' = omega (arith, total-set f vs i v a at, total-set f (set vs i a) j w b at')

  -- no view counts more than all
  pub one_of_total : (f : V → ℕ) (vs : List V) (i : ℕ) (v : V) → get_elem? vs i ≡ some v → f v ≤ total f vs
  one_of_total f [] i v e = absurd (some-ne-none v (sym e))
  one_of_total f (x ∷ xs) zero v e = let same : f x ≡ f v = ap f (some-injective x v e) in omega arith
  one_of_total f (x ∷ xs) (suc i) v e = omega (arith, one_of_total f xs i v e)

  -- nor do two
  pub two_of_total : (f : V → ℕ) (vs : List V) (i j : ℕ) (v u : V) → get_elem? vs i ≡ some v → get_elem? vs j ≡ some u → j ≢ i → f v + f u ≤ total f vs
  two_of_total f [] i j v u a b n = absurd (some-ne-none v (sym a))
  two_of_total f (x ∷ xs) zero zero v u a b n = absurd (n refl)
  two_of_total f (x ∷ xs) zero (suc j) v u a b n = let e : f x ≡ f v = ap f (some-injective x v a) in omega (arith, one_of_total f xs j u b)
  two_of_total f (x ∷ xs) (suc i) zero v u a b n = let e : f x ≡ f u = ap f (some-injective x u b) in omega (arith, one_of_total f xs i v a)
  two_of_total f (x ∷ xs) (suc i) (suc j) v u a b n = omega (arith, two_of_total f xs i j v u a b (λ e. n (ap suc e)))

  -- where f is 0 of each view, it counts nothing
  pub total_zero : (f : V → ℕ) (vs : List V) → ((j : ℕ) (v : V) → get_elem? vs j ≡ some v → f v ≡ 0) → total f vs ≡ 0
  total_zero f [] all = refl
  total_zero f (v ∷ vs) all = omega (arith, all 0 v refl, total_zero f vs (λ j u e. all (suc j) u e))

  -- where f counts nothing, and g is 0 wherever f is, g counts nothing
  pub total_none : (f g : V → ℕ) (vs : List V) → ((j : ℕ) (u : V) → get_elem? vs j ≡ some u → f u ≡ 0 → g u ≡ 0) → total f vs ≡ 0 → total g vs ≡ 0
  total_none f g [] idle nothing = refl
  total_none f g (x ∷ xs) idle nothing = let a : g x ≡ 0 = idle 0 x refl (omega arith) in let b : total g xs ≡ 0 = total_none f g xs (λ j u e z. idle (suc j) u e z) (omega arith) in omega arith

  -- where one view has all that f counts, and g is 0 wherever f is, it has all that g counts
  pub total_alone : (f g : V → ℕ) (vs : List V) (i : ℕ) (v : V) → get_elem? vs i ≡ some v → ((j : ℕ) (u : V) → get_elem? vs j ≡ some u → f u ≡ 0 → g u ≡ 0) → total f vs ≡ f v → total g vs ≡ g v
  total_alone f g [] i v e idle all = absurd (some-ne-none v (sym e))
  total_alone f g (x ∷ xs) zero v e idle all = let same = some-injective x v e in let a : f x ≡ f v = ap f same in let b : g x ≡ g v = ap g same in
      let c : total g xs ≡ 0 = total_none f g xs (λ j u e' z. idle (suc j) u e' z) (omega arith) in omega arith
  total_alone f g (x ∷ xs) (suc i) v e idle all = let part = one_of_total f xs i v e in let a : f x ≡ 0 = omega arith in let b : g x ≡ 0 = idle 0 x refl a in
      let c : total g xs ≡ g v = total_alone f g xs i v e (λ j u e' z. idle (suc j) u e' z) (omega arith) in omega arith
