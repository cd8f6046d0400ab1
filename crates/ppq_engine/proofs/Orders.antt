-- What is known of the order of a type of records.
use Rattle.std.specs.Prelude.{◌≡◌}
use Rattle.std.specs.Cmp.{IsTotalOrder}
use Rattle.std.specs.declared.cmp.Ordering.TheVariants.{Equal}
use Rattle.ppq_script.specs.Words.{Words}

-- its order is total, and only a record is equal to itself
pub record HasLaws {R : Type 0} (w : Words R) : Type 0 where
  pub order : IsTotalOrder w.cmp
  pub same : (x y : R) → w.cmp x y ≡ Equal → x ≡ y

pub laws_of : {R : Type 0} (w : Words R) → IsTotalOrder w.cmp → ((x y : R) → w.cmp x y ≡ Equal → x ≡ y) → HasLaws w
laws_of w order same = record { order = order; same = same }
