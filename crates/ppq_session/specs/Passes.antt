-- A pass that was taken apart.
use Rattle.std.specs.Prelude.{◌≡◌, ℕ, List, None}
use Rattle.std.specs.declared.cmp.Ordering.{Ordering}
use Rattle.ppq_pass.specs.ppq_budget.Sizes.{Numbers}
use Rattle.ppq_pass.specs.ppq_outside.Shown.{Shown}
use Rattle.ppq_pass.specs.Passed.{PassHolding, holding_of}
use Rattle.ppq_pass.specs.PassState.{IsPassed, IsSoundPass, IsPassCounted}
use Rattle.ppq_session.specs.declared.brought.Brought.{Brought}

module _ {S R : Type 0} (shown : S → Shown) (record_of : List ℕ → R) (width : ℕ) (n : Numbers) where
  -- what the pass showed
  abbrev pub pass_of : Brought S R → PassHolding S R
  pass_of one = holding_of shown record_of width n one.heap one.body one.kept.value one.begun one.accepted one.refused one.failed one.stores

  -- what held of the pass: its stash is that of its parts as they were
  pub record IsBrought (cmp : R → R → Ordering) (one : Brought S R) : Type 0 where
    pub always : IsPassed shown width n one.heap one.body one.kept.value one.refused one.failed
    pub sound : one.failed ≡ None → IsSoundPass shown cmp record_of width n one.heap one.body one.kept.value one.begun one.accepted one.refused
    pub stash : one.stash ≡ one.kept.value.stash
    pub counted : IsPassCounted shown n one.heap one.body one.kept.value one.begun one.accepted one.stores one.failed
