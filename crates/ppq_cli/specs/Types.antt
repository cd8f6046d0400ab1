-- The types of records that a script may be about, as its head says.
use Rattle.std.specs.Prelude.{◌==◌, ◌&&◌, false, not, List, ℕ, Some}
use Rattle.std.specs.Ordering.{nat_cmp, partial_ordering_then}
use Rattle.ppq_words.specs.ppq_record.declared.pair.Pair.{Pair}
use Rattle.ppq_words.specs.ppq_record.declared.triple.Triple.{Triple}
use Rattle.ppq_words.specs.ppq_record.declared.down.Down.{Down}
use Rattle.ppq_words.specs.ppq_record.Pair.{IsPairValue, pair_bytes, pair_cmp, pair_of}
use Rattle.ppq_words.specs.ppq_record.Triple.{IsTripleValue, triple_bytes, triple_cmp, triple_of}
use Rattle.ppq_words.specs.ppq_record.Down.{down}
use Rattle.ppq_words.specs.ppq_record.FieldsOf.{pair_fields, pair_of_fields, triple_fields, triple_of_fields}
use Rattle.ppq_words.specs.ppq_script.Words.{Words}
use Rattle.ppq_words.specs.ppq_script.Lines.{head_of}
use Rattle.ppq_words.specs.ppq_script.declared.kind.Kind.{Kind}
use Rattle.ppq_words.specs.ppq_script.declared.kind.Kind.TheVariants as kind
use Rattle.ppq_words.specs.ppq_script.declared.order.Order.{Order}
use Rattle.ppq_words.specs.ppq_script.declared.order.Order.TheVariants as order

-- records of two numbers: the first that differs decides, the smaller one going first, and the bytes are both, eight each
abbrev pub pair_words : Words Pair
pair_words =
    record {
      partial_cmp = λ x y. partial_ordering_then (Some (nat_cmp x.key y.key)) (Some (nat_cmp x.value y.value));
      eq = λ x y. (x.key == y.key) && (x.value == y.value);
      cmp = pair_cmp;
      WIDTH = 16;
      is_value = IsPairValue;
      bytes_of = pair_bytes;
      record_of = pair_of;
      COUNT = 2;
      DOWN = false;
      fields_of = pair_fields;
      of_fields = pair_of_fields;
    }

-- the same of three numbers
abbrev pub triple_words : Words Triple
triple_words =
    record {
      partial_cmp = λ x y. partial_ordering_then (Some (nat_cmp x.time y.time)) (partial_ordering_then (Some (nat_cmp x.target y.target)) (Some (nat_cmp x.word y.word)));
      eq = λ x y. (x.time == y.time) && ((x.target == y.target) && (x.word == y.word));
      cmp = triple_cmp;
      WIDTH = 24;
      is_value = IsTripleValue;
      bytes_of = triple_bytes;
      record_of = triple_of;
      COUNT = 3;
      DOWN = false;
      fields_of = triple_fields;
      of_fields = triple_of_fields;
    }

-- records with the same bytes in the opposite order
abbrev pub down_words : {R : Type 0} → Words R → Words (Down R)
down_words words =
    record {
      partial_cmp = λ x y. words.partial_cmp y.item x.item;
      eq = λ x y. words.eq x.item y.item;
      cmp = λ x y. words.cmp y.item x.item;
      WIDTH = words.WIDTH;
      is_value = λ d. words.is_value d.item;
      bytes_of = λ d. words.bytes_of d.item;
      record_of = λ b. down (words.record_of b);
      COUNT = words.COUNT;
      DOWN = not words.DOWN;
      fields_of = λ d. words.fields_of d.item;
      of_fields = λ f. down (words.of_fields f);
    }

-- a type of records, and what it brings
pub record RecordType : Type 1 where
  pub R : Type 0
  pub words : Words R

abbrev pub typed : {R : Type 0} → Words R → RecordType
typed {R} words = record { R = R; words = words }

-- the type of the records of this kind and this order
abbrev pub type_at : Kind → Order → RecordType
type_at kind.Pair order.Up = typed pair_words
type_at kind.Pair order.Down = typed (down_words pair_words)
type_at kind.Triple order.Up = typed triple_words
type_at kind.Triple order.Down = typed (down_words triple_words)

-- the type of the records of a script of these bytes
abbrev pub type_of : List ℕ → RecordType
type_of bytes = type_at (head_of bytes).kind (head_of bytes).order
