-- The number of the first pass in order that met a fault.
use Rattle.std.proofs.Common.{◌≡◌, ◌≤◌, ℕ, List, [], ◌∷◌, ◌++◌, map, reverse, sum_by, All, Option, Some, refl, sym, ap, ◌∙◌, arith, inl, inr}
use Rattle.std.specs.Prelude.{◌⊎◌, flat_map}
use Rattle.std.proofs.lemmas.List.{map-append, reverse-append}
use Rattle.std.proofs.lemmas.List.Elements.{All-head, All-tail, All-nil, All-cons}
use Rattle.std.proofs.lemmas.List.Sums.{sum_by-append}
use Rattle.ppq_session.specs.Ends.{first_some}
use Rattle.ppq_session.proofs.PutIn.{or_some}

one_of : {A B P : Type 0} → A ⊎ B → (A → P) → (B → P) → P
one_of (inl a) f g = f a
one_of (inr b) f g = g b

module _ {X : Type 0} (f : X → Option ℕ) where
  -- what follows from the fault of each, and from the other one, follows from the first
  pub first-says : {P : Type 0} (number : ℕ) (xs : List X) (other : Option ℕ) → All (λ x. f x ≡ Some number → P) xs → (other ≡ Some number → P) → first_some (map f xs) other ≡ Some number → P
  first-says number [] other each last e = last e
  first-says {P} number (x ∷ xs) other each last e =
      let Q : X → Type 0 = λ y. f y ≡ Some number → P in
      one_of (or_some (f x) (first_some (map f xs) other) number e) (All-head Q x xs each) (first-says number xs other (All-tail Q x xs each) last)

-- a list that was turned, and mapped before or after
pub map-turned : {X Y Z : Type 0} (g : Y → Z) (h : X → Y) (xs : List X) → map g (reverse (map h xs)) ≡ map (λ x. g (h x)) (reverse xs)
map-turned g h [] = refl
map-turned g h (x ∷ xs) =
    ap (map g) (reverse-append (h x ∷ []) (map h xs)) ∙ map-append g (reverse (map h xs)) (h x ∷ []) ∙ ap (λ l. l ++ g (h x) ∷ []) (map-turned g h xs)
    ∙ sym (ap (map (λ y. g (h y))) (reverse-append (x ∷ []) xs) ∙ map-append (λ y. g (h y)) (reverse xs) (x ∷ []))

-- a sum over one part is no more than that over all
pub part-within : {X A : Type 0} (w : A → ℕ) (g : X → List A) (xs : List X) → All (λ x. sum_by w (g x) ≤ sum_by w (flat_map g xs)) xs
part-within w g [] = All-nil (λ x. sum_by w (g x) ≤ sum_by w (flat_map g []))
part-within w g (x ∷ xs) =
    All-cons (λ y. sum_by w (g y) ≤ sum_by w (flat_map g (x ∷ xs))) x xs (omega (arith, sum_by-append w (g x) (flat_map g xs)))
    (λ k d h. omega (arith, part-within w g xs k d h, sum_by-append w (g x) (flat_map g xs)))
