-- What the laws of a type of records say of its words.
use Rattle.std.proofs.Common.{◌≡◌, ◌⊎◌, ℕ, ◌<◌, Bool, true, false, List, [], ◌∷◌, length, inl, inr, refl, sym, ap, ◌∙◌, arith, Ordering}
use Rattle.std.specs.declared.cmp.Ordering.TheVariants.{Less, Equal, Greater}
use Rattle.std.specs.Ordering.{nat_cmp, ordering_then, is_lt, MatchOrdering}
use Rattle.std.specs.Cmp.{nat_cmp_is}
use Rattle.std.specs.Cmp.Lexicographic.{slice_cmp}
use Rattle.std.proofs.lemmas.Cmp.{ranked}
use Rattle.ppq_record.specs.Fields.{fields_cmp}
use Rattle.ppq_record.specs.Order.{is_before}
use Rattle.ppq_script.specs.Words.{Words, AreWords}
use Rattle.ppq_script.specs.Meaning.{AreLess, AreBefore, IsBelow}

-- lists of numbers in order
slice_same : (xs : List ℕ) → slice_cmp nat_cmp xs xs ≡ Equal
slice_same [] = refl
slice_same (x ∷ xs) = ap (λ (r : Ordering). ordering_then r (slice_cmp nat_cmp xs xs)) (sym (nat_cmp_is x x Equal refl)) ∙ slice_same xs

less_slice : (xs ys : List ℕ) → length xs ≡ length ys → slice_cmp nat_cmp xs ys ≡ Less → AreLess xs ys
less_slice [] [] long e = cc
less_slice [] (y ∷ ys) long e = absurd (omega (arith, long))
less_slice (x ∷ xs) [] long e = absurd (omega (arith, long))
less_slice (x ∷ xs) (y ∷ ys) long e = by_first (nat_cmp x y) (ranked x y (nat_cmp x y) refl) e (λ rest. less_slice xs ys (omega (arith, long)) rest)
  where
    by_first : (r : Ordering) → MatchOrdering r (x < y) (x ≡ y) (y < x) → ordering_then r (slice_cmp nat_cmp xs ys) ≡ Less → (slice_cmp nat_cmp xs ys ≡ Less → AreLess xs ys) → (x < y) ⊎ ((x ≡ y) × AreLess xs ys)
    by_first Less h e rest = inl h
    by_first Equal h e rest = inr (h, rest e)
    by_first Greater h e rest = cc

slice_less : (xs ys : List ℕ) → AreLess xs ys → slice_cmp nat_cmp xs ys ≡ Less
slice_less [] ys h = absurd h
slice_less (x ∷ xs) [] h = absurd h
slice_less (x ∷ xs) (y ∷ ys) (inl h) = ap (λ (r : Ordering). ordering_then r (slice_cmp nat_cmp xs ys)) (sym (nat_cmp_is x y Less h))
slice_less (x ∷ xs) (y ∷ ys) (inr h) = ap (λ (r : Ordering). ordering_then r (slice_cmp nat_cmp xs ys)) (sym (nat_cmp_is x y Equal h.0)) ∙ slice_less xs ys h.1

-- and in both orders
fields_same : (down : Bool) (xs : List ℕ) → fields_cmp down xs xs ≡ Equal
fields_same false xs = slice_same xs
fields_same true xs = slice_same xs

before_fields : (down : Bool) (xs ys : List ℕ) → length xs ≡ length ys → fields_cmp down xs ys ≡ Less → AreBefore down xs ys
before_fields false xs ys long e = less_slice xs ys long e
before_fields true xs ys long e = less_slice ys xs (sym long) e

fields_before : (down : Bool) (xs ys : List ℕ) → AreBefore down xs ys → fields_cmp down xs ys ≡ Less
fields_before false xs ys h = slice_less xs ys h
fields_before true xs ys h = slice_less ys xs h

less_is : (o : Ordering) → is_lt o ≡ true → o ≡ Less
less_is Less e = refl
less_is Equal e = cc
less_is Greater e = cc

-- a record is its fields, and their order is its own
pub record Laws {R : Type 0} (words : Words R) : Type 0 where
  pub count : (r : R) → length (words.fields_of r) ≡ words.COUNT
  pub own : (f : List ℕ) → length f ≡ words.COUNT → words.fields_of (words.of_fields f) ≡ f
  pub back : (r : R) → words.of_fields (words.fields_of r) ≡ r
  pub below : (x y : R) → is_before words.cmp x y ≡ true → IsBelow words x y
  pub before : (x y : R) → IsBelow words x y → is_before words.cmp x y ≡ true

pub laws_of : {R : Type 0} (words : Words R) → AreWords words → ((x y : R) → words.cmp x y ≡ Equal → x ≡ y) → Laws words
laws_of words are same = record {
  count = are.count;
  own = are.own;
  back = λ r.
      let f = words.fields_of r in
      same (words.of_fields f) r (are.order (words.of_fields f) r ∙ ap (λ (g : List ℕ). fields_cmp words.DOWN g f) (are.own f (are.count r)) ∙ fields_same words.DOWN f);
  below = λ x y e. before_fields words.DOWN (words.fields_of x) (words.fields_of y) (are.count x ∙ sym (are.count y)) (sym (are.order x y) ∙ less_is (words.cmp x y) e);
  before = λ x y h. ap is_lt (are.order x y ∙ fields_before words.DOWN (words.fields_of x) (words.fields_of y) h);
}
