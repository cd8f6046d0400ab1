pub use Rattle.ppq_session.proofs.ppq_block as ppq_block
pub use Rattle.ppq_session.proofs.ppq_queue.ppq_counts as ppq_counts
pub use Rattle.ppq_session.proofs.ppq_queue as ppq_queue
pub mod Counting
pub mod FileRecords
pub mod Generated
pub mod Loadings
pub mod Parts
pub mod PieceRecords
pub mod Reading
pub mod Refusals
pub mod Results
pub mod Sequence
pub mod Strides
