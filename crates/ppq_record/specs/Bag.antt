-- Multisets of records: lists of which only the counts matter.
use Rattle.std.specs.Prelude.{◌≡◌, ℕ, ◌-◌, Bool, List, [], ◌∷◌, ◌++◌, min, count_by, nat_eq, take, drop, Option, Some, None}
use Rattle.std.specs.declared.cmp.Ordering.{Ordering}
use Rattle.std.specs.Ordering.{is_eq}
use Rattle.ppq_record.specs.Order.{is_before, Ascends, in_order}

-- how often r stands in the multiset
abbrev pub count : {R : Type 0} → (R → R → Ordering) → List R → R → ℕ
count cmp bag r = count_by (λ x. is_eq (cmp x r)) bag

-- how many records of the multiset stand strictly before l
abbrev pub size_below : {R : Type 0} → (R → R → Ordering) → List R → R → ℕ
size_below cmp bag l = count_by (λ x. is_before cmp x l) bag

-- the same records, each as often: every test is passed by as many of one as of the other
abbrev pub IsSameBag : {X : Type 0} → List X → List X → Type 0
IsSameBag {X} xs ys = (p : X → Bool) → count_by p xs ≡ count_by p ys

-- r stands in out as often as among the smallest k records of the multiset
abbrev pub IsCounted : {R : Type 0} → (R → R → Ordering) → List R → ℕ → List R → R → Type 0
IsCounted cmp bag k out r = count cmp out r ≡ min (count cmp bag r) (k - size_below cmp bag r)

-- the test of it
abbrev pub counted_test : {R : Type 0} → (R → R → Ordering) → List R → ℕ → List R → R → Bool
counted_test cmp bag k out r = nat_eq (count cmp out r) (min (count cmp bag r) (k - size_below cmp bag r))

-- out is the ascending list of the smallest k records of the multiset, told by counting
pub record IsFront {R : Type 0} (cmp : R → R → Ordering) (bag : List R) (k : ℕ) (out : List R) : Type 0 where
  pub ascends : Ascends cmp out
  pub counts : (r : R) → IsCounted cmp bag k out r

-- the records of a multiset in ascending order
abbrev pub ascending : {R : Type 0} → (R → R → Ordering) → List R → List R
ascending cmp bag = in_order (is_before cmp) bag

-- the smallest k records of a multiset in ascending order
abbrev pub front : {R : Type 0} → (R → R → Ordering) → List R → ℕ → List R
front cmp bag k = take k (ascending cmp bag)

-- the multiset without its smallest k records
abbrev pub without_front : {R : Type 0} → (R → R → Ordering) → List R → ℕ → List R
without_front cmp bag k = drop k (ascending cmp bag)

-- the first of a list
abbrev pub first_of : {X : Type 0} → List X → Option X
first_of [] = None
first_of (x ∷ xs) = Some x

-- the smallest record of a multiset, and none of an empty one
abbrev pub least : {R : Type 0} → (R → R → Ordering) → List R → Option R
least cmp bag = first_of (front cmp bag 1)

-- the front is what counting tells, and nothing else is; the front and the rest are the multiset
pub record HasOneFront {R : Type 0} (cmp : R → R → Ordering) : Type 0 where
  pub there_is : (bag : List R) (k : ℕ) → IsFront cmp bag k (front cmp bag k)
  pub only : (bag : List R) (k : ℕ) (out : List R) → IsFront cmp bag k out → out ≡ front cmp bag k
  pub parts : (bag : List R) (k : ℕ) → IsSameBag (front cmp bag k ++ without_front cmp bag k) bag
  pub same_bag : (one other : List R) → ((r : R) → count cmp one r ≡ count cmp other r) → IsSameBag one other
