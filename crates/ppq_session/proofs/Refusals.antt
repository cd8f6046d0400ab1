-- For each load there is room or not, and what refuses a load also refuses a greater one, and where a limit session was begun since.
use Rattle.std.proofs.Common.{◌≡◌, inl, inr, Bool, false, ℕ, ◌+◌, ◌-◌, ◌<◌, ◌≤◌, List, arith}
use Rattle.std.proofs.lemmas.Nat.{le-div}
use Rattle.std.proofs.Math.Nat.{div-mul-le_self}
use Rattle.ppq_pass.specs.ppq_outside.Shown.{Shown}
use Rattle.ppq_pass.specs.ppq_budget.Sizes.{Numbers, blocks_for, room_of}
use Rattle.ppq_pass.specs.ppq_array.declared.store_fault.StoreFault.{StoreFault as QueueFault}
use Rattle.ppq_pass.specs.ppq_array.declared.store_fault.StoreFault.TheVariants.{NoFreeBlock, Device}
use Rattle.ppq_session.specs.Refusal.{HasRoom, HasNoRoom, IsRefusedBy}

-- not both
pub room-not_none : (sizes : Numbers) (limited : Bool) (load : ℕ) → HasRoom sizes limited load → HasNoRoom sizes limited load → ⊥
room-not_none sizes limited load (inl heap) none = omega (arith, none.0 heap.0, heap.1)
room-not_none sizes limited load (inr room) none = omega (arith, room, none.1)

-- a greater load wants no fewer blocks
pub room-more : (sizes : Numbers) (load more : ℕ) → 0 < sizes.block → load ≤ more → room_of sizes load ≤ room_of sizes more
room-more sizes load more some h =
    let blocks : blocks_for sizes load ≤ blocks_for sizes more = le-div (blocks_for sizes load) (more + (sizes.block - 1)) sizes.block some (omega (arith, div-mul-le_self (load + (sizes.block - 1)) sizes.block)) in
    omega arith

-- a greater load, and later on: where no limit session was begun then, none was before
module _ (sizes : Numbers) (before later : Bool) (load more : ℕ) (some : 0 < sizes.block) (since : later ≡ false → before ≡ false) (h : load ≤ more) where
  pub no_room-later : HasNoRoom sizes before load → HasNoRoom sizes later more
  no_room-later none = ((λ unlimited. omega (arith, none.0 (since unlimited), h)), omega (arith, none.1, room-more sizes load more some h))

  pub cause-later : (slots : List Shown) (fault : QueueFault) → IsRefusedBy load sizes before slots fault → IsRefusedBy more sizes later slots fault
  cause-later slots NoFreeBlock cause = no_room-later cause
  cause-later slots (Device number) cause = cause
