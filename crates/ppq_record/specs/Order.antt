-- The order of records, and ascending lists.
use Rattle.std.specs.Prelude.{◌≡◌, Bool, false, cond, List, [], ◌∷◌}
use Rattle.std.specs.declared.cmp.Ordering.{Ordering}
use Rattle.std.specs.Ordering.{is_lt}
use Rattle.std.specs.List.{AllByRecursion as Each}

-- the test whether one record stands strictly before another
abbrev pub is_before : {R : Type 0} → (R → R → Ordering) → R → R → Bool
is_before cmp a b = is_lt (cmp a b)

-- a is not after b
abbrev pub Le : {X : Type 0} → (X → X → Bool) → X → X → Type 0
Le lt a b = lt b a ≡ false

-- no item stands before an earlier one
abbrev pub Rising : {X : Type 0} → (X → X → Bool) → List X → Type 0
Rising lt [] = Unit {0}
Rising lt (x ∷ xs) = Each (Le lt x) xs × Rising lt xs

-- a list of records in ascending order
abbrev pub Ascends : {R : Type 0} → (R → R → Ordering) → List R → Type 0
Ascends cmp xs = Rising (is_before cmp) xs

-- an item inserted in front of the first that it is not after
unfoldable pub put_in_order : {X : Type 0} → (X → X → Bool) → X → List X → List X
put_in_order lt y [] = y ∷ []
put_in_order lt y (x ∷ xs) = cond (lt x y) (x ∷ put_in_order lt y xs) (y ∷ x ∷ xs)

-- the items in ascending order
unfoldable pub in_order : {X : Type 0} → (X → X → Bool) → List X → List X
in_order lt [] = []
in_order lt (x ∷ xs) = put_in_order lt x (in_order lt xs)
