pub use Rattle.ppq_counts.specs as ppq_counts
pub mod Body
pub mod Choosing
pub mod Costing
pub mod Grouping
pub mod Latched
pub mod Leveling
pub mod Making
pub mod Moves
pub mod Pairing
pub mod Staging
pub mod Storing
pub mod Untold
pub mod Went
pub mod Writing
