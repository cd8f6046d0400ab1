-- Taking the smallest records of a multiset, in rounds.
use Rattle.std.specs.Prelude.{◌≡◌, ℕ, Bool, true, false, min, List, [], ◌++◌, Option, Some, None, ⊤}
use Rattle.std.specs.declared.cmp.Ordering.{Ordering}
use Rattle.std.specs.List.{AllByRecursion as Each}
use Rattle.ppq_array.specs.ppq_record.Order.{is_before, Le, Ascends}
use Rattle.ppq_array.specs.ppq_record.Bag.{IsSameBag, size_below}

module _ {R : Type 0} (cmp : R → R → Ordering) where
  -- no record of one list is after one of the other
  abbrev pub NoneAfter : List R → List R → Type 0
  NoneAfter xs ys = Each (λ x. Each (Le (is_before cmp) x) ys) xs

  -- out was taken of the multiset, in ascending order, and what is left of it has none that is before one of out
  pub record IsTaken (bag out left : List R) : Type 0 where
    pub moved : IsSameBag bag (out ++ left)
    pub ascends : Ascends cmp out
    pub least : NoneAfter out left

  -- how many records are wanted: at most so many, and of a multiset with a limit no more than stand below it
  abbrev pub wanted : ℕ → Option R → List R → ℕ
  wanted most None bag = most
  wanted most (Some l) bag = min most (size_below cmp bag l)

  -- all records are below the limit, where there is one
  abbrev pub AllBelow : Option R → List R → Type 0
  AllBelow None xs = ⊤
  AllBelow (Some l) xs = Each (λ x. is_before cmp x l ≡ true) xs

  -- no record is below the limit; without a limit there is none
  abbrev pub NoneBelow : Option R → List R → Type 0
  NoneBelow None xs = xs ≡ []
  NoneBelow (Some l) xs = Each (λ x. is_before cmp x l ≡ false) xs

  -- what passes the test is not after what does not, in any ascending list
  abbrev pub IsDownward : (R → Bool) → Type 0
  IsDownward p = (x y : R) → Le (is_before cmp) x y → p y ≡ true → p x ≡ true

  -- no record that passes the test is after one of the list
  abbrev pub IsSafe : (R → Bool) → List R → Type 0
  IsSafe p waiting = (x : R) → p x ≡ true → Each (Le (is_before cmp) x) waiting
