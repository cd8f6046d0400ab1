-- What refuses a load also refuses a greater one, and where a limit session was begun since.
use Rattle.std.proofs.Common.{◌≡◌, Bool, false, ℕ, ◌<◌, ◌≤◌, List}
use Rattle.ppq_session.specs.ppq_outside.Shown.{Shown}
use Rattle.ppq_session.specs.ppq_budget.Sizes.{Numbers}
use Rattle.ppq_load.specs.declared.fault.LoadFault.{LoadFault}
use Rattle.ppq_load.specs.declared.fault.LoadFault.TheVariants.{Queue, Read, Memory, Ended}
use Rattle.ppq_load.specs.Loading.{LoadStopsFor}
use Rattle.ppq_session.proofs.Refusals.{cause-later}
pub use Rattle.ppq_session.proofs.Refusals.{room-not_none, no_room-later, cause-later}

module _ (sizes : Numbers) (before later : Bool) (load more : ℕ) (some : 0 < sizes.block) (since : later ≡ false → before ≡ false) (h : load ≤ more) where
  pub stop-later : (slots : List Shown) (fault : LoadFault) → LoadStopsFor load sizes before slots fault → LoadStopsFor more sizes later slots fault
  stop-later slots (Queue fault) stop = cause-later sizes before later load more some since h slots fault stop
  stop-later slots Read stop = tt
  stop-later slots Memory stop = tt
  stop-later slots (Ended got) stop = tt
