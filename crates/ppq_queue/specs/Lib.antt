pub use Rattle.ppq_extract.specs.ppq_array as ppq_array
pub use Rattle.ppq_extract.specs.ppq_block as ppq_block
pub use Rattle.ppq_extract.specs.ppq_budget as ppq_budget
pub use Rattle.ppq_spill.specs.ppq_counts as ppq_counts
pub use Rattle.ppq_extract.specs as ppq_extract
pub use Rattle.ppq_extract.specs.ppq_fetch as ppq_fetch
pub use Rattle.ppq_heap.specs as ppq_heap
pub use Rattle.ppq_extract.specs.ppq_lane as ppq_lane
pub use Rattle.ppq_extract.specs.ppq_outside as ppq_outside
pub use Rattle.ppq_spill.specs as ppq_spill
pub use Rattle.ppq_heap.specs.ppq_tree as ppq_tree
pub use Rattle.ppq_extract.specs.ppq_budget.Sizes as Sizes
pub use Rattle.ppq_extract.specs.ppq_outside.Shown as Shown
pub use Rattle.ppq_extract.specs.ppq_array.Kept as Kept
pub mod Bulk
pub mod Choice
pub mod Handed
pub mod Holding
pub mod Laws
pub mod Out
pub mod Paying
pub mod Resting
pub mod Slots
pub mod State
pub mod Stores
