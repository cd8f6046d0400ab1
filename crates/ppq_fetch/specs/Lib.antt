pub use Rattle.ppq_array.specs as ppq_array
pub use Rattle.ppq_array.specs.ppq_block as ppq_block
pub use Rattle.ppq_lane.specs as ppq_lane
pub use Rattle.ppq_array.specs.ppq_outside as ppq_outside
pub use Rattle.ppq_array.specs.ppq_record as ppq_record
pub use Rattle.ppq_merge.specs.ppq_tree as ppq_tree
pub mod Bench
pub mod Beside
pub mod Edges
pub mod Fetching
pub mod Hints
pub mod Parts
pub mod Plan
pub mod Rounds
pub mod Steps
pub mod Taking
pub mod Turns
pub mod Untold
