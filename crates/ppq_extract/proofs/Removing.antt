-- Lists that some elements were taken out of, in any order.
use Rattle.std.proofs.Common.{◌≡◌, ℕ, ◌+◌, ◌-◌, ◌<◌, ◌≤◌, ◌≢◌, List, [], ◌∷◌, ◌++◌, length, get_or, set, All, IsPermutation, refl, sym, ap, ◌∙◌, inl, inr, subst, arith, append_assoc, length-append}
use Rattle.std.proofs.lemmas.Bool.{cases_lt}
use Rattle.std.specs.Prelude.{sum_by}
use Rattle.std.specs.List.{AllWithin, swap_remove}
use Rattle.std.proofs.lemmas.List.{get_or_default, get_or-take, get_or-set_other, length-set, length-take}
use Rattle.std.proofs.lemmas.Grind.{get_or-set_at}
use Rattle.std.proofs.lemmas.List.Sums.{sum_by-cons, sum_by-append}
use Rattle.std.proofs.lemmas.List.Elements.{All-nil, All-cons, All-head, All-tail, All-append}
use Rattle.std.proofs.lemmas.List.Sorted.{IsPermutation-refl, IsPermutation-trans, IsPermutation-append_right, IsPermutation-swap_remove, sum_by-IsPermutation, All-permutation, length_permutation}
use Rattle.ppq_fetch.proofs.ppq_array.Noted.{all_right}
use Rattle.ppq_extract.specs.Emptied.{LostOnly}

module _ {X : Type 0} where
  -- a measure that is 0 of each element adds up to 0
  pub sum_nothing : (f : X → ℕ) (P : X → Type 0) → ((x : X) → P x → f x ≡ 0) → (xs : List X) → All P xs → sum_by f xs ≡ 0
  sum_nothing f P zeros [] all = refl
  sum_nothing f P zeros (x ∷ xs) all =
      let e : sum_by f (x ∷ xs) ≡ 0 = omega (arith, sum_by-cons f x xs, zeros x (All-head P x xs all), sum_nothing f P zeros xs (All-tail P x xs all)) in e

module _ {X : Type 0} (IsLost : X → Type 0) where
  pub lost_none : (xs : List X) → LostOnly IsLost xs xs
  lost_none xs = record { lost = []; each = All-nil IsLost; parted = IsPermutation-refl xs }

  pub lost_one : (xs ys : List X) (x : X) → IsLost x → IsPermutation xs (x ∷ ys) → LostOnly IsLost xs ys
  lost_one xs ys x is moved = record { lost = x ∷ []; each = All-cons IsLost x [] is (All-nil IsLost); parted = moved }

  -- the element at a place was taken out, and the last came there
  pub lost_at : (xs ys : List X) (i : ℕ) (x y : X) → i < length xs → y ≡ get_or xs i y → x ≡ get_or xs i x → ys ≡ swap_remove xs i x → IsLost y → LostOnly IsLost xs ys
  lost_at xs ys i x y within at value items is =
      let e : y ≡ x = at ∙ (get_or_default xs i y x within ∙ sym value) in
      lost_one xs ys x (subst IsLost e is) (subst (λ zs. IsPermutation xs (x ∷ zs)) (sym items) (IsPermutation-swap_remove xs i x within value))

  pub lost_more : (xs ys zs : List X) → LostOnly IsLost xs ys → LostOnly IsLost ys zs → LostOnly IsLost xs zs
  lost_more xs ys zs one other = record {
    lost = one.lost ++ other.lost;
    each = All-append IsLost one.lost other.lost one.each other.each;
    parted = subst (IsPermutation xs) (sym (append_assoc one.lost other.lost zs)) (IsPermutation-trans xs (one.lost ++ ys) (one.lost ++ (other.lost ++ zs)) one.parted (IsPermutation-append_right one.lost ys (other.lost ++ zs) other.parted));
  }

  module _ (xs ys : List X) (l : LostOnly IsLost xs ys) where
    -- a measure that is 0 of what is gone adds up as before
    pub sum_lost : (f : X → ℕ) → ((x : X) → IsLost x → f x ≡ 0) → sum_by f ys ≡ sum_by f xs
    sum_lost f zeros = omega (arith, sum_by-IsPermutation f xs (l.lost ++ ys) l.parted, sum_by-append f l.lost ys, sum_nothing f IsLost zeros l.lost l.each)

    -- no measure adds up to more
    pub sum_at_most : (f : X → ℕ) → sum_by f ys ≤ sum_by f xs
    sum_at_most f = omega (arith, sum_by-IsPermutation f xs (l.lost ++ ys) l.parted, sum_by-append f l.lost ys)

    pub length_lost : length ys ≤ length xs
    length_lost = omega (arith, length_permutation xs (l.lost ++ ys) l.parted, length-append l.lost ys)

    pub All_lost : (P : X → Type 0) → All P xs → All P ys
    All_lost P all = all_right P l.lost ys (All-permutation P xs (l.lost ++ ys) l.parted all)

pub length_removed : {X : Type 0} (xs ys : List X) (i : ℕ) (x : X) → i < length xs → ys ≡ swap_remove xs i x → length ys ≡ length xs - 1
length_removed xs ys i x within items =
    let n = length xs - 1 in
    let v = get_or xs n x in
    omega (arith, ap length items, length-take n (set xs i v), length-set xs i v)

-- From one place on all elements have the property; so they do with the one before them where that has it, or where it was taken out
module _ {X : Type 0} (P : X → Type 0) where
  pub within_kept : (xs : List X) (i : ℕ) (x : X) → x ≡ get_or xs i x → i < length xs → P x → AllWithin P xs (i + 1) (length xs) → AllWithin P xs i (length xs)
  within_kept xs i x is within p after k d above below =
      elim (cases_lt i k) as (λ _. P (get_or xs k d)) [
        | inl more ↦ after k d (omega arith) below
        | inr same ↦ (let e : k ≡ i = omega arith in
            subst P (is ∙ (get_or_default xs i x d within ∙ sym (ap (λ n. get_or xs n d) e))) p)
      ]

  pub within_removed : (xs ys : List X) (i : ℕ) (x : X) → i < length xs → ys ≡ swap_remove xs i x → AllWithin P xs (i + 1) (length xs) → AllWithin P ys i (length ys)
  within_removed xs ys i x within items after k d above below =
      let n = length xs - 1 in
      let v = get_or xs n x in
      let long : length ys ≡ n = length_removed xs ys i x within items in
      let short : k < n = omega (arith, long) in
      let at : get_or ys k d ≡ get_or (set xs i v) k d = ap (λ zs. get_or zs k d) items ∙ get_or-take n (set xs i v) k d short in
      elim (cases_lt i k) as (λ _. P (get_or ys k d)) [
        | inl more ↦ (let ne : k ≢ i = omega arith in
            subst P (sym (at ∙ get_or-set_other xs i k v d ne)) (after k d (omega arith) (omega arith)))
        | inr same ↦ (let e : k ≡ i = omega arith in
            subst P (sym (at ∙ get_or-set_at xs i k v d e within)) (after n x (omega arith) (omega arith)))
      ]
