-- Pieces that a sink took, one after the other.
use Rattle.std.proofs.Common.{◌≡◌, ℕ, ◌+◌, List, [], ◌++◌, length, take, Option, Some, None, refl, sym, ap, ◌∙◌, arith, append_assoc, length-append, append-nil, take_all, subst}
use Rattle.std.proofs.lemmas.List.{take-append-le}
use Rattle.std.proofs.Math.Seq.{take-append-add}
use Rattle.ppq_outside.specs.Told.{TakesAll, TakesPart}

pub takes_nothing : (a : Option (List ℕ)) → TakesAll a a []
takes_nothing None = refl
takes_nothing (Some had) = ap (λ (t : List ℕ). Some t) (sym (append-nil had))

none_after : (b c : Option (List ℕ)) (y : List ℕ) → b ≡ None → TakesAll b c y → c ≡ None
none_after b c y f g = let P : Option (List ℕ) → Type 0 = λ z. TakesAll z c y in subst P f g

none_after_part : (b c : Option (List ℕ)) (y : List ℕ) → b ≡ None → TakesPart b c y → c ≡ None
none_after_part b c y f g = let P : Option (List ℕ) → Type 0 = λ z. TakesPart z c y in subst P f g

some_after : (had : List ℕ) (b c : Option (List ℕ)) (x y : List ℕ) → b ≡ Some (had ++ x) → TakesAll b c y → c ≡ Some (had ++ (x ++ y))
some_after had b c x y f g = let P : Option (List ℕ) → Type 0 = λ z. TakesAll z c y in let h : c ≡ Some ((had ++ x) ++ y) = subst P f g in h ∙ ap (λ (t : List ℕ). Some t) (append_assoc had x y)

part_after : (had : List ℕ) (c : Option (List ℕ)) (x y : List ℕ) → TakesPart (Some (had ++ x)) c y → TakesPart (Some had) c (x ++ y)
part_after had c x y (n, within, is) = (length x + n, omega (arith, length-append x y), is ∙ ap (λ (t : List ℕ). Some t) (append_assoc had x (take n y) ∙ ap (λ (t : List ℕ). had ++ t) (sym (take-append-add x y n))))

some_after_part : (had : List ℕ) (b c : Option (List ℕ)) (x y : List ℕ) → b ≡ Some (had ++ x) → TakesPart b c y → TakesPart (Some had) c (x ++ y)
some_after_part had b c x y f g = let P : Option (List ℕ) → Type 0 = λ z. TakesPart z c y in part_after had c x y (subst P f g)

pub takes_two : (a b c : Option (List ℕ)) (x y : List ℕ) → TakesAll a b x → TakesAll b c y → TakesAll a c (x ++ y)
takes_two None b c x y f g = none_after b c y f g
takes_two (Some had) b c x y f g = some_after had b c x y f g

pub takes_and_part : (a b c : Option (List ℕ)) (x y : List ℕ) → TakesAll a b x → TakesPart b c y → TakesPart a c (x ++ y)
takes_and_part None b c x y f g = none_after_part b c y f g
takes_and_part (Some had) b c x y f g = some_after_part had b c x y f g

-- a prefix of a piece is a prefix of a longer one
pub part_of_more : (a b : Option (List ℕ)) (x y : List ℕ) → TakesPart a b x → TakesPart a b (x ++ y)
part_of_more None b x y f = f
part_of_more (Some had) b x y (n, within, is) = (n, omega (arith, length-append x y), is ∙ ap (λ (t : List ℕ). Some (had ++ t)) (sym (take-append-le n x y within)))

pub all_is_part : (a b : Option (List ℕ)) (x : List ℕ) → TakesAll a b x → TakesPart a b x
all_is_part None b x f = f
all_is_part (Some had) b x f = (length x, omega arith, f ∙ ap (λ (t : List ℕ). Some (had ++ t)) (sym (take_all (length x) x (omega arith))))
