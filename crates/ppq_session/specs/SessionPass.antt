-- Passes of a session of either kind: each knows the record below which it adds none, if there is one.
use Rattle.std.specs.Prelude.{◌≡◌, ◌↔◌, false, Bool, IsTrue, List, Option, Some, None, ⊤}
use Rattle.std.specs.declared.cmp.Ordering.{Ordering}
use Rattle.ppq_pass.specs.ppq_outside.Shown.{Shown}
use Rattle.ppq_pass.specs.Passed.{PassHolding}
use Rattle.ppq_pass.specs.ppq_fetch.Taking.{NoneBelow}
use Rattle.ppq_session.specs.Dealing.{IsGoing, HasEnded, Adds}
use Rattle.ppq_session.specs.Limited.{IsLimited}

module _ {S R : Type 0} where
  -- what a limit, where there is one, says of the pass
  abbrev pub KeepsLimit : (S → Shown) → (R → R → Ordering) → Option R → PassHolding S R → Type 0
  KeepsLimit shown cmp None pass = ⊤
  KeepsLimit shown cmp (Some limit) pass = IsLimited shown cmp limit pass

  -- a pass was given these records, and each limit that they keep is kept
  pub record Takes (shown : S → Shown) (cmp : R → R → Ordering) (records : List R) (old new : PassHolding S R) : Type 0 where
    pub adds : Adds shown records old new
    pub limits : (limit : R) → NoneBelow cmp (Some limit) records → IsLimited shown cmp limit old → IsLimited shown cmp limit new

  -- it is said whether the pass goes on, and where not, a push of it was refused
  pub record SaysIfGoing (is_going : Bool) (pass : PassHolding S R) : Type 0 where
    pub going : IsTrue is_going ↔ IsGoing pass
    pub ended : is_going ≡ false → HasEnded pass
