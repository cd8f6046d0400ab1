-- What contracts see of a pass of a limit session.
use Rattle.std.specs.Prelude.{◌≡◌, List, [], map, Some, None}
use Rattle.std.specs.declared.cmp.Ordering.{Ordering}
use Rattle.ppq_pass.specs.ppq_outside.Shown.{Shown, AllTell}
use Rattle.ppq_pass.specs.ppq_array.Owner.{slots_shown}
use Rattle.ppq_pass.specs.ppq_fetch.Taking.{NoneBelow}
use Rattle.ppq_pass.specs.Passed.{PassHolding, PassTells}

-- the pass, and the limit of its session
pub record LimitHolding (S R : Type 0) : Type 0 where
  pub pass : PassHolding S R
  pub limit : R

-- the passes alone
abbrev pub passes_of : {S R : Type 0} → List (LimitHolding S R) → List (PassHolding S R)
passes_of passes = map (λ p. p.pass) passes

module _ {S R : Type 0} where
  abbrev pub limited : PassHolding S R → R → LimitHolding S R
  limited pass limit = record { pass = pass; limit = limit }

  -- a pass without records, which has drawn no slot
  pub record HoldsNothing (pass : PassHolding S R) : Type 0 where
    pub bag : pass.bag ≡ []
    pub slots : pass.slots ≡ []

  -- Where the slots told that were put into the row, those of the pass tell; and unless a call of one failed, no record of the pass is below
  -- the limit
  pub record IsLimited (shown : S → Shown) (cmp : R → R → Ordering) (limit : R) (pass : PassHolding S R) : Type 0 where
    pub tells : AllTell (slots_shown shown pass.key.items) → PassTells shown pass
    pub above : AllTell (slots_shown shown pass.key.items) → pass.failed ≡ None → NoneBelow cmp (Some limit) pass.bag
