pub use Rattle.ppq_pass.specs.ppq_array as ppq_array
pub use Rattle.ppq_pass.specs.ppq_block as ppq_block
pub use Rattle.ppq_pass.specs.ppq_budget as ppq_budget
pub use Rattle.ppq_pass.specs.ppq_core as ppq_core
pub use Rattle.ppq_pass.specs.ppq_counts as ppq_counts
pub use Rattle.ppq_pass.specs.ppq_extract as ppq_extract
pub use Rattle.ppq_pass.specs.ppq_fetch as ppq_fetch
pub use Rattle.ppq_pass.specs.ppq_heap as ppq_heap
pub use Rattle.ppq_pass.specs.ppq_outside as ppq_outside
pub use Rattle.ppq_pass.specs as ppq_pass
pub use Rattle.ppq_pass.specs.ppq_pool as ppq_pool
pub use Rattle.ppq_queue.specs as ppq_queue
pub use Rattle.ppq_pass.specs.ppq_record as ppq_record
pub use Rattle.ppq_pass.specs.ppq_row as ppq_row
pub use Rattle.ppq_pass.specs.ppq_spill as ppq_spill
pub use Rattle.ppq_pass.specs.ppq_table as ppq_table
pub use Rattle.ppq_pass.specs.ppq_tree as ppq_tree
pub use Rattle.ppq_queue.specs.Holding as Holding
pub use Rattle.ppq_pass.specs.ppq_array.Kept as Kept
pub use Rattle.ppq_pass.specs.Passed as Passed
pub use Rattle.ppq_pass.specs.ppq_outside.Shown as Shown
pub mod Answering
pub mod Apart
pub mod Asks
pub mod Batches
pub mod Bringing
pub mod BulkSession
pub mod Closing
pub mod Counting
pub mod Dealing
pub mod Emptied
pub mod Ends
pub mod Equipped
pub mod FrontState
pub mod Fronts
pub mod Gathering
pub mod Given
pub mod LimitSession
pub mod LimitSessions
pub mod Limited
pub mod OneHistory
pub mod Opened
pub mod Outfits
pub mod Passes
pub mod Pushes
pub mod Readied
pub mod Refusal
pub mod SessionPass
pub mod Sessions
pub mod Shares
pub mod State
pub mod Stored
