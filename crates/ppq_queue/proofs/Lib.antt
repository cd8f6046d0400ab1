pub use Rattle.ppq_extract.proofs.ppq_array as ppq_array
pub use Rattle.ppq_extract.proofs.ppq_block as ppq_block
pub use Rattle.ppq_extract.proofs.ppq_budget as ppq_budget
pub use Rattle.ppq_spill.proofs.ppq_counts as ppq_counts
pub use Rattle.ppq_heap.proofs as ppq_heap
pub use Rattle.ppq_extract.proofs.ppq_lane as ppq_lane
pub use Rattle.ppq_extract.proofs.ppq_outside as ppq_outside
pub use Rattle.ppq_spill.proofs as ppq_spill
pub use Rattle.ppq_heap.proofs.ppq_tree as ppq_tree
pub mod Slots
pub mod Shared
pub mod Accounted
pub mod Counted
pub mod Amounts
pub mod Odd
pub mod Paying
pub mod Bounds
pub mod Overreads
pub mod Used
pub mod Moves
pub mod Stored
pub mod HeapStores
pub mod Leveled
pub mod Refilled
pub mod Least
pub mod Ready
pub mod Firsts
pub mod Opened
pub mod Stores
pub mod Flushed
pub mod Calls
pub mod Merging
pub mod Took
pub mod Twice
pub mod Ends
