-- How items lie in their places at the start, and what is left in them at the end.
use Rattle.std.proofs.Common.{◌≡◌, ℕ, zero, suc, ◌+◌, ◌<◌, ◌≤◌, Bool, false, List, [], ◌∷◌, ◌++◌, map, take, drop, length, get_or, slice_set, sym, refl, ap, ◌∙◌, subst, arith, Vec}
use Rattle.std.proofs.lemmas.List.{same_from_push}
use mathlib.Core.Option.{Option, none, some, some-injective, some-ne-none}
use mathlib.Core.Logic.{dite}
use native.Mathlib.Decide.{ℕ_discrete}
use lib.ListN.{get_elem?}
use Rattle.std.specs.Global.{Global}
use Rattle.ppq_table.specs.declared.place.Place.{Place}
use Rattle.ppq_table.specs.declared.place.Place.TheVariants.{Empty, Item, Room}
use Rattle.ppq_table.specs.Places.{IsRoom, IsLaid, items_in, Unread}

pub nil_of : {A : Type 0} (xs : List A) → length xs ≡ 0 → xs ≡ []
nil_of [] e = refl
nil_of (x ∷ xs) e = absurd (omega arith)

module _ {A : Type 0} where
  -- one more element of a list, beyond those that are dropped
  pub drop_take-more : (xs : List A) (c i : ℕ) (x : A) → c ≤ i → get_elem? xs i ≡ some x → drop c (take (suc i) xs) ≡ drop c (take i xs) ++ x ∷ []
  drop_take-more [] c i x le e = absurd (some-ne-none x (sym e))
  drop_take-more (y ∷ xs) zero zero x le e = λ k. some-injective y x e k ∷ []
  drop_take-more (y ∷ xs) zero (suc i) x le e = λ k. y ∷ drop_take-more xs zero i x (omega arith) e k
  drop_take-more (y ∷ xs) (suc c) zero x le e = absurd (omega arith)
  drop_take-more (y ∷ xs) (suc c) (suc i) x le e = drop_take-more xs c i x (omega arith) e

module _ {T : Type 0} where
  abbrev item_of : Place T → Option T
  item_of Empty = none
  item_of (Item x) = some x
  item_of (Room r) = none

  pub item-injective : (x y : T) → Item x ≡ Item y → x ≡ y
  item-injective x y e = some-injective x y (ap item_of e)

  abbrev room_of : Vec T Global → Place T → Vec T Global
  room_of d Empty = d
  room_of d (Item x) = d
  room_of d (Room r) = r

  -- what stands in a list of items is an item
  pub item_inside : (xs : List T) (a b : List (Place T)) (p : Place T) → map Item xs ≡ a ++ p ∷ b → (x : T) × (p ≡ Item x)
  item_inside [] [] b p e = absurd (let l : 0 ≡ suc (length b) = ap length e in omega arith)
  item_inside [] (q ∷ a) b p e = absurd (let l : 0 ≡ suc (length (a ++ p ∷ b)) = ap length e in omega arith)
  item_inside (x ∷ xs) [] b p e = (x, sym (ap (λ (l : List (Place T)). get_or l 0 Empty) e))
  item_inside (x ∷ xs) (q ∷ a) b p e = item_inside xs a b p (ap (drop 1) e)

  pub items_same : (xs ys : List T) → map Item xs ≡ map Item ys → xs ≡ ys
  items_same [] [] e = refl
  items_same [] (y ∷ ys) e = absurd (let l : 0 ≡ suc (length (map Item ys)) = ap length e in omega arith)
  items_same (x ∷ xs) [] e = absurd (let l : suc (length (map Item xs)) ≡ 0 = ap length e in omega arith)
  items_same (x ∷ xs) (y ∷ ys) e = λ i. item-injective x y (ap (λ (l : List (Place T)). get_or l 0 Empty) e) i ∷ items_same xs ys (ap (drop 1) e) i

  -- the homes of a table that begins with laid items: the item i
  pub laid_item : (xs : List T) (q : Place T) (i : ℕ) (x : T) → get_elem? xs i ≡ some x → get_elem? (map some (map Item xs ++ q ∷ [])) i ≡ some (some (Item x))
  laid_item [] q i x e = absurd (some-ne-none x (sym e))
  laid_item (y ∷ xs) q zero x e = ap (λ (z : T). some (some (Item z))) (some-injective y x e)
  laid_item (y ∷ xs) q (suc i) x e = laid_item xs q i x e

  -- the last place
  pub laid_last : (xs : List T) (q : Place T) → get_elem? (map some (map Item xs ++ q ∷ [])) (length xs) ≡ some (some q)
  laid_last [] q = refl
  laid_last (y ∷ xs) q = laid_last xs q

  -- and how many there are
  pub laid_length : (xs : List T) (q : Place T) → length (map some (map Item xs ++ q ∷ [])) ≡ length xs + 1
  laid_length [] q = refl
  laid_length (y ∷ xs) q = omega (arith, laid_length xs q)

  -- the last of what was laid
  pub laid_pop : (xs : List T) (ps ms : List (Place T)) (q : Place T) → IsLaid xs ps → ps ≡ ms ++ q ∷ [] → (map Item xs ≡ ms) × ((r : Vec T Global) × (q ≡ Room r) × IsRoom (length xs) r)
  laid_pop xs ps ms q laid e = let both = same_from_push (map Item xs) ms (Room laid.0) q (sym laid.1 ∙ e) in (both.0, (laid.0, sym both.1, laid.2))

  pub items_in-append : (ps qs : List (Place T)) → items_in (ps ++ qs) ≡ items_in ps ++ items_in qs
  items_in-append [] qs = refl
  items_in-append (Item x ∷ ps) qs = λ k. x ∷ items_in-append ps qs k
  items_in-append (Empty ∷ ps) qs = items_in-append ps qs
  items_in-append (Room r ∷ ps) qs = items_in-append ps qs

  -- one more place, beyond those that are dropped
  pub items_in-more : (ps : List (Place T)) (c i : ℕ) (p : Place T) → c ≤ i → get_elem? ps i ≡ some p → items_in (drop c (take (suc i) ps)) ≡ items_in (drop c (take i ps)) ++ items_in (p ∷ [])
  items_in-more ps c i p le e = ap items_in (drop_take-more ps c i p le e) ∙ items_in-append (drop c (take i ps)) (p ∷ [])

  -- where the items from the place c on are in their places, these are the items that lie there
  pub items_in-rest : (xs : List T) (ps : List (Place T)) (c : ℕ) → length xs ≤ length ps → ((i : ℕ) (x : T) → c ≤ i → get_elem? xs i ≡ some x → get_elem? ps i ≡ some (Item x)) → items_in (drop c (take (length xs) ps)) ≡ drop c xs
  items_in-rest [] ps zero le home = refl
  items_in-rest [] ps (suc c) le home = refl
  items_in-rest (x ∷ xs) [] c le home = absurd (omega arith)
  items_in-rest (x ∷ xs) (p ∷ ps) zero le home = let here : p ≡ Item x = some-injective p (Item x) (home 0 x (omega arith) refl) in
      ap (λ (q : Place T). items_in (q ∷ take (length xs) ps)) here ∙ (λ k. x ∷ items_in-rest xs ps 0 (omega arith) (λ i y h e. home (suc i) y (omega arith) e) k)
  items_in-rest (x ∷ xs) (p ∷ ps) (suc c) le home = items_in-rest xs ps c (omega arith) (λ i y h e. home (suc i) y (omega arith) e)

set_false : (fs : List Bool) (i : ℕ) → get_or (slice_set fs i false) i false ≡ false
set_false [] i = refl
set_false (x ∷ fs) zero = refl
set_false (x ∷ fs) (suc i) = set_false fs i

set_apart : (fs : List Bool) (i k : ℕ) → ¬ (k ≡ i) → get_or (slice_set fs i false) k false ≡ get_or fs k false
set_apart [] i k n = refl
set_apart (x ∷ fs) zero zero n = absurd (n refl)
set_apart (x ∷ fs) zero (suc k) n = refl
set_apart (x ∷ fs) (suc i) zero n = refl
set_apart (x ∷ fs) (suc i) (suc k) n = set_apart fs i k (λ e. n (ap suc e))

-- the next slot is taken
pub Unread-more : (fs : List Bool) (i n : ℕ) → i < n → Unread fs i n → Unread (slice_set fs i false) (i + 1) n
Unread-more fs i n h u = (
  (λ k le lt. set_apart fs i k (λ e. omega arith) ∙ u.0 k (omega arith) lt),
  (λ k lt. dite (ℕ_discrete k i) (λ e. subst (λ (j : ℕ). get_or (slice_set fs i false) j false ≡ false) (sym e) (set_false fs i)) (λ ne. set_apart fs i k ne ∙ u.1 k (omega arith))),
  set_apart fs i n (λ e. omega arith) ∙ u.2,
)
