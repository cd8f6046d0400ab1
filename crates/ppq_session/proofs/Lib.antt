pub use Rattle.ppq_pass.proofs.ppq_array as ppq_array
pub use Rattle.ppq_pass.proofs.ppq_block as ppq_block
pub use Rattle.ppq_pass.proofs.ppq_outside as ppq_outside
pub use Rattle.ppq_pass.proofs as ppq_pass
pub use Rattle.ppq_queue.proofs as ppq_queue
pub use Rattle.ppq_pass.proofs.ppq_record as ppq_record
pub use Rattle.ppq_pass.proofs.ppq_spill as ppq_spill
pub use Rattle.ppq_pass.proofs.ppq_table as ppq_table
pub mod Adding
pub mod Answered
pub mod Begun
pub mod Belows
pub mod Backed
pub mod Brings
pub mod Counted
pub mod Emptying
pub mod Equipping
pub mod Faults
pub mod FirstGathered
pub mod Fits
pub mod Fronted
pub mod Gathered
pub mod InRuns
pub mod LimitSessions
pub mod LineParts
pub mod Mapped
pub mod Moved
pub mod OneHistory
pub mod Opening
pub mod Paying
pub mod Places
pub mod Pushes
pub mod PutIn
pub mod Refilling
pub mod Rejoined
pub mod Refusals
pub mod Rows
pub mod Sends
pub mod Sessions
pub mod ShortOfBlocks
pub mod Stored
pub mod Together
pub mod Without
