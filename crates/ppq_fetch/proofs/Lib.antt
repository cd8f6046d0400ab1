pub use Rattle.ppq_array.proofs as ppq_array
pub use Rattle.ppq_array.proofs.ppq_block as ppq_block
pub use Rattle.ppq_lane.proofs as ppq_lane
pub use Rattle.ppq_array.proofs.ppq_outside as ppq_outside
pub use Rattle.ppq_array.proofs.ppq_record as ppq_record
pub mod Beside
pub mod Consuming
pub mod Hints
pub mod Landing
pub mod Listings
pub mod Loads
pub mod Marking
pub mod Parted
pub mod Ready
pub mod Rounds
pub mod Sums
pub mod Takes
pub mod Waiting
