-- What holds of a mapped list, said of the list that it was made of.
use Rattle.std.proofs.Common.{◌≡◌, ℕ, zero, suc, ◌<◌, List, [], ◌∷◌, length, map, get_or, sum_by, All, refl, sym, ap₂, subst, arith}
use Rattle.std.specs.List.{Any, slice_index_or}
use Rattle.std.proofs.lemmas.List.{length-map, get_or-map}
use Rattle.std.proofs.lemmas.List.Sums.{sum_by-cons}
use Rattle.std.proofs.lemmas.List.Elements.{All-nil, All-cons, All-head, All-tail}

module _ {X Y : Type 0} (f : X → Y) where
  pub sum-mapped : (w : Y → ℕ) (xs : List X) → sum_by w (map f xs) ≡ sum_by (λ x. w (f x)) xs
  sum-mapped w [] = refl
  sum-mapped w (x ∷ xs) = omega (arith, sum-mapped w xs, sum_by-cons w (f x) (map f xs), sum_by-cons (λ y. w (f y)) x xs)

  pub all_mapped : (P : Y → Type 0) (xs : List X) → All P (map f xs) → All (λ x. P (f x)) xs
  all_mapped P [] all = All-nil (λ x. P (f x))
  all_mapped P (x ∷ xs) all = All-cons (λ x. P (f x)) x xs (All-head P (f x) (map f xs) all) (all_mapped P xs (All-tail P (f x) (map f xs) all))

  -- and the other way
  pub any_mapped : (Q : Y → Type 0) (xs : List X) → Any (λ x. Q (f x)) xs → Any Q (map f xs)
  any_mapped Q [] any = absurd (let h : any.0 < 0 = any.2 in omega (arith, h))
  any_mapped Q (x ∷ xs) any = by_place (any_mapped Q xs) any.0 any.1 any.2 any.3 any.4
    where
      by_place : (Any (λ y. Q (f y)) xs → Any Q (map f xs)) → (k : ℕ) (y : X) → k < length (x ∷ xs) → slice_index_or (x ∷ xs) k y ≡ y → Q (f y) → Any Q (map f (x ∷ xs))
      by_place next zero y h e q = (0, f x, omega arith, refl, subst (λ z. Q (f z)) (sym e) q)
      by_place next (suc k) y h e q =
          let more = next (k, y, omega (arith, h), e, q) in
          (suc more.0, more.1, omega (arith, more.2), more.3, more.4)

  -- what holds of an item of two lists at each place
  pub each-mapped :
      (Q : ℕ → Y → Y → Type 0) (xs ys : List X) → length ys ≡ length xs → ((i : ℕ) (d : X) → i < length xs → Q i (f (get_or xs i d)) (f (get_or ys i d)))
      → (i : ℕ) (d : Y) → i < length (map f xs) → Q i (get_or (map f xs) i d) (get_or (map f ys) i d)
  each-mapped Q [] ys e each i d h = absurd (omega arith)
  each-mapped Q (x ∷ xs) ys e each i d h =
      let within : i < length (x ∷ xs) = omega (arith, h, length-map (x ∷ xs) f) in
      subst (λ n. Q i (get_or (map f (x ∷ xs)) i d) n) (sym (get_or-map f ys i x d (omega (arith, within, e)))) (subst (λ o. Q i o (f (get_or ys i x))) (sym (get_or-map f (x ∷ xs) i x d within)) (each i x within))

  -- nothing changed of each item
  pub same-mapped : (xs ys : List X) → length ys ≡ length xs → ((i : ℕ) (d : X) → i < length xs → f (get_or ys i d) ≡ f (get_or xs i d)) → map f ys ≡ map f xs
  same-mapped [] [] e each = refl
  same-mapped [] (y ∷ ys) e each = absurd (omega arith)
  same-mapped (x ∷ xs) [] e each = absurd (omega arith)
  same-mapped (x ∷ xs) (y ∷ ys) e each = ap₂ (λ (z : Y) (zs : List Y). z ∷ zs) (each 0 x (omega arith)) (same-mapped xs ys (omega arith) (λ i d h. each (suc i) d (omega arith)))
