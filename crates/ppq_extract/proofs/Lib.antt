pub use Rattle.ppq_fetch.proofs.ppq_array as ppq_array
pub use Rattle.ppq_fetch.proofs.ppq_block as ppq_block
pub use Rattle.ppq_budget.proofs as ppq_budget
pub use Rattle.ppq_fetch.proofs as ppq_fetch
pub use Rattle.ppq_fetch.proofs.ppq_lane as ppq_lane
pub use Rattle.ppq_fetch.proofs.ppq_outside as ppq_outside
pub mod Emptying
pub mod Leaving
pub mod Refilling
pub mod Removing
pub mod Sums
pub mod Thinning
