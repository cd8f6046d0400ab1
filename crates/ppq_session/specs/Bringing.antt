-- Passes that come back at the end of a session.
use Rattle.std.specs.Prelude.{◌≡◌, ℕ, ◌+◌, ◌≤◌, true, List, ◌++◌, length, map, flat_map, All, vec_capacity}
use Rattle.std.specs.declared.cmp.Ordering.{Ordering}
use Rattle.ppq_pass.specs.ppq_budget.Sizes.{Numbers}
use Rattle.ppq_pass.specs.ppq_outside.Shown.{Shown}
use Rattle.ppq_pass.specs.Passed.{PassHolding}
use Rattle.ppq_pass.specs.declared.shared.Shared.{Shared}
use Rattle.ppq_session.specs.Passes.{IsBrought, pass_of}
use Rattle.ppq_session.specs.declared.brought.Brought.{Brought}
use Rattle.ppq_session.specs.declared.parts.BulkParts.{BulkParts}

-- the pass is of this session, with these sizes, and has one share of each seat
pub record IsShareOf {S R : Type 0} (shared : Shared S R) (n : Numbers) (pass : PassHolding S R) : Type 0 where
  pub row : pass.key.row ≡ shared.row
  pub pool : pass.key.pool ≡ shared.pool
  pub row_share : pass.key.row_shares ≡ 1
  pub pool_share : pass.key.pool_shares ≡ 1
  pub sizes : pass.key.sizes ≡ n

-- passes can be brought: each is of this session, and there is room for what they bring
pub record MayBring {S R : Type 0} (shared : Shared S R) (q : BulkParts S R) (passes : List (PassHolding S R)) : Type 0 where
  pub row : q.row_seat.row ≡ shared.row
  pub pool : q.pool_seat.pool ≡ shared.pool
  pub of : All (IsShareOf shared q.sizes) passes
  pub room : length q.brought.items + length passes ≤ vec_capacity q.brought

module _ {S R : Type 0} (shown : S → Shown) (record_of : List ℕ → R) (width : ℕ) (n : Numbers) where
  -- The passes came, the last first. The seats have what theirs had; nothing else changed
  pub record BroughtAll (cmp : R → R → Ordering) (passes : List (PassHolding S R)) (old new : BulkParts S R) : Type 0 where
    pub brought : List (Brought S R)
    pub items : new.brought.items ≡ old.brought.items ++ brought
    pub passes_are : map (pass_of shown record_of width n) brought ≡ passes
    pub each : All (IsBrought shown record_of width n cmp) brought
    pub row : new.row_seat.row ≡ old.row_seat.row
    pub row_items : new.row_seat.hand.items ≡ old.row_seat.hand.items
    pub row_shares : new.row_seat.hand.shares ≡ old.row_seat.hand.shares + length brought
    pub places : new.row_seat.hand.places ≡ old.row_seat.hand.places ++ flat_map (λ (one : Brought S R). one.kept.value.row_seat.hand.places) brought
    pub noted : All (λ (one : Brought S R). one.kept.value.row_seat.hand.noted ≡ true → new.row_seat.hand.noted ≡ true) brought
    pub noted_still : old.row_seat.hand.noted ≡ true → new.row_seat.hand.noted ≡ true
    pub pool : new.pool_seat.pool ≡ old.pool_seat.pool
    pub pool_shape : new.pool_seat.hand.shape ≡ old.pool_seat.hand.shape
    pub pool_shares : new.pool_seat.hand.shares ≡ old.pool_seat.hand.shares + length brought
    pub numbers : new.pool_seat.hand.numbers ≡ old.pool_seat.hand.numbers ++ flat_map (λ (one : Brought S R). one.kept.value.pool_seat.hand.numbers) brought
    pub rest : new ≡ record old { row_seat = new.row_seat; pool_seat = new.pool_seat; brought = new.brought }
