pub use Rattle.ppq_files.specs as ppq_files
pub use Rattle.ppq_session.specs.ppq_array as ppq_array
pub use Rattle.ppq_session.specs.ppq_budget as ppq_budget
pub use Rattle.ppq_session.specs.ppq_queue.ppq_counts as ppq_counts
pub use Rattle.ppq_session.specs.ppq_pass as ppq_pass
pub use Rattle.ppq_session.specs.ppq_queue as ppq_queue
pub use Rattle.ppq_session.specs as ppq_session
pub use Rattle.ppq_record.specs as ppq_record
pub mod Generating
pub mod Given
pub mod Loading
pub mod Refusal
pub mod Sequence
