-- Sums over lists that were joined; whether slots tell, as a sum; and how many records runs have.
use Rattle.std.proofs.Common.{◌≡◌, ℕ, ◌+◌, ◌<◌, ◌≤◌, List, [], ◌∷◌, ◌++◌, length, map, flat_map, sum_by, Option, Some, None, IsSome, refl, ap, arith, length-append}
use Rattle.std.specs.List.{slice_get}
use Rattle.std.proofs.lemmas.Option.{slice_get_within, get_or_from_slice_get}
use Rattle.std.proofs.lemmas.List.Concat.{flat_map-cons}
use Rattle.std.proofs.lemmas.List.Sums.{sum_by-cons, sum_by-append, get_or-le-sum_by}
use Rattle.std.proofs.lemmas.List.Elements.{All-cons, All-head, All-tail, All-nil}
use Rattle.ppq_array.specs.ppq_record.Runs.{all_of}
use Rattle.ppq_array.specs.ppq_outside.Shown.{Shown, Tells, AllTell}
use Rattle.ppq_array.specs.Run.{Run, items_of}
use Rattle.ppq_array.specs.External.{External, size_of, waiting, counts}
use Rattle.ppq_fetch.specs.Fetching.{one_if_some, loaded_lists, count_in}
use Rattle.ppq_fetch.specs.Untold.{untold_of, untold}

module _ {A X : Type 0} (f : X → ℕ) (h : A → List X) where
  pub sum_flat_map : (xs : List A) → sum_by f (flat_map h xs) ≡ sum_by (λ x. sum_by f (h x)) xs
  sum_flat_map [] = refl
  sum_flat_map (x ∷ xs) = omega (arith, ap (sum_by f) (flat_map-cons h x xs), sum_by-append f (h x) (flat_map h xs), sum_flat_map xs, sum_by-cons (λ x. sum_by f (h x)) x xs)

  pub sum_all_of : (xs : List A) → sum_by f (all_of (map h xs)) ≡ sum_by (λ x. sum_by f (h x)) xs
  sum_all_of [] = refl
  sum_all_of (x ∷ xs) = omega (arith, sum_by-append f (h x) (all_of (map h xs)), sum_all_of xs, sum_by-cons (λ x. sum_by f (h x)) x xs)

module _ {X : Type 0} where
  pub sum_two_of : (f : X → ℕ) (xs ys : List (List X)) → sum_by f (all_of (xs ++ ys)) ≡ sum_by f (all_of xs) + sum_by f (all_of ys)
  sum_two_of f [] ys = omega arith
  sum_two_of f (x ∷ xs) ys = omega (arith, sum_by-append f x (all_of (xs ++ ys)), sum_by-append f x (all_of xs), sum_two_of f xs ys)

  pub long_two_of : (xs ys : List (List X)) → length (all_of (xs ++ ys)) ≡ length (all_of xs) + length (all_of ys)
  long_two_of [] ys = omega arith
  long_two_of (x ∷ xs) ys = omega (arith, long_two_of xs ys, length-append x (all_of xs), length-append x (all_of (xs ++ ys)))

  pub long_all_of : {A : Type 0} (h : A → List X) (xs : List A) → length (all_of (map h xs)) ≡ sum_by (λ x. length (h x)) xs
  long_all_of h [] = refl
  long_all_of h (x ∷ xs) = omega (arith, long_all_of h xs, length-append (h x) (all_of (map h xs)), sum_by-cons (λ x. length (h x)) x xs)

pub one_le : {X : Type 0} (xs : List X) → one_if_some xs ≤ 1
one_le [] = omega arith
one_le (x ∷ xs) = omega arith

told_none : (told : Option (List ℕ)) → IsSome told → untold_of told ≡ 0
told_none None t = absurd (cc)
told_none (Some bytes) t = refl

pub none_told : (told : Option (List ℕ)) → untold_of told ≡ 0 → IsSome told
none_told None e = absurd (omega (arith, e))
none_told (Some bytes) e = refl

pub tell_sum : (xs : List Shown) → AllTell xs → sum_by untold xs ≡ 0
tell_sum [] t = refl
tell_sum (x ∷ xs) t = omega (arith, sum_by-cons untold x xs, told_none x.told (All-head Tells x xs t), tell_sum xs (All-tail Tells x xs t))

pub sum_tell : (xs : List Shown) → sum_by untold xs ≡ 0 → AllTell xs
sum_tell [] e = All-nil Tells
sum_tell (x ∷ xs) e =
    let here : untold_of x.told ≡ 0 = omega (arith, e, sum_by-cons untold x xs) in
    let rest : sum_by untold xs ≡ 0 = omega (arith, e, sum_by-cons untold x xs) in
    All-cons Tells x xs (none_told x.told here) (sum_tell xs rest)

module _ {S R : Type 0} where
  abbrev pub loaded_of : External S R → List R
  loaded_of a = items_of a.loaded

  sizes : (arrays : List (External S R)) → sum_by (λ (a : External S R). length (items_of a.loaded)) arrays + sum_by (λ (a : External S R). counts (waiting a)) arrays ≡ sum_by size_of arrays
  sizes [] = omega arith
  sizes (a ∷ arrays) =
      omega (arith, sizes arrays, sum_by-cons (λ (a : External S R). length (items_of a.loaded)) a arrays, sum_by-cons (λ (a : External S R). counts (waiting a)) a arrays, sum_by-cons (λ (a : External S R). size_of a) a arrays)

  pub loaded_long : (internal : List (Run R)) (arrays : List (External S R)) → length (all_of (loaded_lists internal arrays)) + sum_by (λ (a : External S R). counts (waiting a)) arrays ≡ count_in internal arrays
  loaded_long internal arrays = omega (arith, long_two_of (map items_of internal) (map loaded_of arrays), long_all_of items_of internal, long_all_of loaded_of arrays, sizes arrays)

  -- where a run has something loaded
  pub some_loaded : (internal : List (Run R)) (arrays : List (External S R)) (i : ℕ) (a : External S R) → slice_get arrays i ≡ Some a → 0 < length (items_of a.loaded) → 0 < length (all_of (loaded_lists internal arrays))
  some_loaded internal arrays i a e some =
      omega (
        arith,
        some,
        ap (λ (z : External S R). length (items_of z.loaded)) (get_or_from_slice_get arrays i a a e),
        get_or-le-sum_by (λ (z : External S R). length (items_of z.loaded)) arrays i a (slice_get_within arrays i a e),
        long_all_of loaded_of arrays,
        long_two_of (map items_of internal) (map loaded_of arrays),
      )
