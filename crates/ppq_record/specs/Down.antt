-- A record in the opposite order.
use Rattle.std.proofs.Common.{◌≡◌, ap, sym}
use Rattle.ppq_record.specs.declared.down.Down.{Down}

abbrev pub down : {R : Type 0} → R → Down R
down item = record { item = item }

pub down_take_put : {R : Type 0} (d : Down R) (back : R) → back ≡ d.item → down back ≡ d
down_take_put d back e = ap down e

pub down_same : {R : Type 0} (x y : Down R) → y.item ≡ x.item → x ≡ y
down_same x y e = sym (ap down e)
