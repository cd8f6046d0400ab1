-- What a type of records brings: its numbers, its order, and its bytes and fields.
use Rattle.std.specs.Prelude.{ℕ, Bool, List, Option}
use Rattle.std.specs.declared.cmp.Ordering.{Ordering}
use Rattle.std.specs.declared.cmp.PartialEq as equality
use Rattle.std.specs.declared.cmp.PartialOrd as partial
use Rattle.std.specs.declared.cmp.Ord as total
use Rattle.ppq_record.specs.declared.record.Record as bytes
use Rattle.ppq_record.specs.declared.fields.Fields as fields
use Rattle.ppq_record.specs.Fields.{AreFields}

-- what the trait `Fields` and those above it say of a type: in the clause of a function with `R: Fields` it is `R.Fields`
abbrev pub Words : Type 0 → Type 1
Words R = record {
  partial_cmp : R → R → Option Ordering;
  eq : R → R → Bool;
  cmp : R → R → Ordering;
  WIDTH : ℕ;
  is_value : R → Type 0;
  bytes_of : R → List ℕ;
  record_of : List ℕ → R;
  COUNT : ℕ;
  DOWN : Bool;
  fields_of : R → List ℕ;
  of_fields : List ℕ → R;
}

-- the same of what each trait says by itself: in an `impl Model` that is `words R.PartialEq R.PartialOrd R.Ord R.Record R.Fields`,
-- and in a proof file there is `g.` before each
abbrev pub words : {R : Type 0} → equality.Ghosts R → partial.Ghosts R → total.Ghosts R → bytes.Ghosts R → fields.Ghosts R → Words R
words e p o b f =
    record {
      partial_cmp = p.partial_cmp;
      eq = e.eq;
      cmp = o.cmp;
      WIDTH = b.WIDTH;
      is_value = b.is_value;
      bytes_of = b.bytes_of;
      record_of = b.record_of;
      COUNT = f.COUNT;
      DOWN = f.DOWN;
      fields_of = f.fields_of;
      of_fields = f.of_fields;
    }

-- the laws of these fields
abbrev pub AreWords : {R : Type 0} → Words R → Type 0
AreWords words = AreFields words.COUNT words.DOWN words.WIDTH words.is_value words.bytes_of words.cmp words.fields_of words.of_fields
