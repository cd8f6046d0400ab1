pub use Rattle.ppq_split.specs as ppq_split
pub use Rattle.ppq_tree.specs as ppq_tree
pub mod Bench
pub mod Heads
pub mod Merged
pub mod Parts
pub mod Plan
pub mod Seat
