-- The fields of pairs, of triples, and of records in the opposite order.
use Rattle.std.proofs.Common.{◌≡◌, ℕ, Bool, true, false, not, List, [], ◌∷◌, length, get_or, refl, ap, ◌∙◌, arith, Ordering}
use Rattle.std.specs.declared.cmp.Ordering.TheVariants.{Less, Equal, Greater}
use Rattle.std.specs.Ordering.{nat_cmp, ordering_then}
use Rattle.ppq_record.specs.declared.pair.Pair.{Pair}
use Rattle.ppq_record.specs.declared.triple.Triple.{Triple}
use Rattle.ppq_record.specs.declared.down.Down.{Down}
use Rattle.ppq_record.specs.Pair.{IsPairValue, pair_bytes, pair_cmp}
use Rattle.ppq_record.specs.Triple.{IsTripleValue, triple_bytes, triple_cmp}
use Rattle.ppq_record.specs.Down.{down}
use Rattle.ppq_record.specs.Fields.{AreFields, fields_cmp}

abbrev pub pair_fields : Pair → List ℕ
pair_fields p = p.key ∷ p.value ∷ []

abbrev pub pair_of_fields : List ℕ → Pair
pair_of_fields f = record { key = get_or f 0 0; value = get_or f 1 0 }

abbrev pub triple_fields : Triple → List ℕ
triple_fields t = t.time ∷ t.target ∷ t.word ∷ []

abbrev pub triple_of_fields : List ℕ → Triple
triple_of_fields f = record { time = get_or f 0 0; target = get_or f 1 0; word = get_or f 2 0 }

then_nothing : (r : Ordering) → r ≡ ordering_then r Equal
then_nothing Less = refl
then_nothing Equal = refl
then_nothing Greater = refl

two : (f : List ℕ) → length f ≡ 2 → (get_or f 0 0 ∷ get_or f 1 0 ∷ []) ≡ f
two [] long = cc
two (a ∷ []) long = cc
two (a ∷ b ∷ []) long = refl
two (a ∷ b ∷ c ∷ f) long = absurd (omega arith)

three : (f : List ℕ) → length f ≡ 3 → (get_or f 0 0 ∷ get_or f 1 0 ∷ get_or f 2 0 ∷ []) ≡ f
three [] long = cc
three (a ∷ []) long = cc
three (a ∷ b ∷ []) long = cc
three (a ∷ b ∷ c ∷ []) long = refl
three (a ∷ b ∷ c ∷ d ∷ f) long = absurd (omega arith)

pub pair_are_fields : AreFields 2 false 16 IsPairValue pair_bytes pair_cmp pair_fields pair_of_fields
pair_are_fields =
    record {
      width = refl;
      count = λ p. refl;
      small = λ p value. (value.0, (value.1, tt));
      back = λ p value. refl;
      own = two;
      encoded = λ p. refl;
      order = λ x y. ap (ordering_then (nat_cmp x.key y.key)) (then_nothing (nat_cmp x.value y.value));
    }

pub triple_are_fields : AreFields 3 false 24 IsTripleValue triple_bytes triple_cmp triple_fields triple_of_fields
triple_are_fields =
    record {
      width = refl;
      count = λ t. refl;
      small = λ t value. (value.0, (value.1, (value.2, tt)));
      back = λ t value. refl;
      own = three;
      encoded = λ t. refl;
      order = λ x y. ap (λ r. ordering_then (nat_cmp x.time y.time) (ordering_then (nat_cmp x.target y.target) r)) (then_nothing (nat_cmp x.word y.word));
    }

turned : (is_down : Bool) (xs ys : List ℕ) → fields_cmp is_down ys xs ≡ fields_cmp (not is_down) xs ys
turned false xs ys = refl
turned true xs ys = refl

pub down_are_fields : {R : Type 0} {fields : ℕ} {is_down : Bool} {bytes : ℕ} {is_value : R → Type 0} {bytes_of : R → List ℕ} {cmp : R → R → Ordering} {fields_of : R → List ℕ} {of_fields : List ℕ → R} → AreFields fields is_down bytes is_value bytes_of cmp fields_of of_fields → AreFields fields (not is_down) bytes (λ (d : Down R). is_value d.item) (λ d. bytes_of d.item) (λ x y. cmp y.item x.item) (λ d. fields_of d.item) (λ f. down (of_fields f))
down_are_fields {is_down = is_down} {fields_of = fields_of} are =
    record {
      width = are.width;
      count = λ d. are.count d.item;
      small = λ d. are.small d.item;
      back = λ d value. ap down (are.back d.item value);
      own = are.own;
      encoded = λ d. are.encoded d.item;
      order = λ x y. are.order y.item x.item ∙ turned is_down (fields_of x.item) (fields_of y.item);
    }
