-- Sums over lists that were joined.
use Rattle.std.proofs.Common.{◌≡◌, ℕ, List, [], ◌∷◌, ◌++◌, length, refl, sym, ◌∙◌, arith}
use Rattle.std.specs.Prelude.{sum_by}
use Rattle.std.proofs.lemmas.List.Sums.{sum_by-cons, sum_by-append}
use Rattle.ppq_fetch.specs.ppq_outside.Shown.{Shown, AllTell}
use Rattle.ppq_fetch.specs.Untold.{untold}
use Rattle.ppq_fetch.proofs.Sums.{tell_sum, sum_tell}

-- every measure adds up to the same over both lists
abbrev pub SameSums : {X : Type 0} → List X → List X → Type 0
SameSums {X} xs ys = (f : X → ℕ) → sum_by f ys ≡ sum_by f xs

module _ {X : Type 0} where
  length_sum : (xs : List X) → sum_by (λ _. 1) xs ≡ length xs
  length_sum [] = refl
  length_sum (x ∷ xs) = omega (arith, sum_by-cons (λ (x : X). 1) x xs, length_sum xs)

  pub same_length : (xs ys : List X) → SameSums xs ys → length ys ≡ length xs
  same_length xs ys same = sym (length_sum ys) ∙ (same (λ _. 1) ∙ length_sum xs)

  pub same_before : (xs ys rest : List X) → SameSums xs ys → SameSums (xs ++ rest) (ys ++ rest)
  same_before xs ys rest same f = omega (arith, sum_by-append f xs rest, sum_by-append f ys rest, same f)

-- the same slots tell
pub tell_same : (xs ys : List Shown) → SameSums xs ys → AllTell xs → AllTell ys
tell_same xs ys same t = sum_tell ys (same untold ∙ tell_sum xs t)

pub tell_back : (xs ys : List Shown) → SameSums xs ys → AllTell ys → AllTell xs
tell_back xs ys same t = sum_tell xs (sym (same untold) ∙ tell_sum ys t)
