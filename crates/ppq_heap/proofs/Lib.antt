pub use Rattle.ppq_tree.proofs.ppq_record as ppq_record
pub use Rattle.ppq_tree.proofs as ppq_tree
pub mod Heap
pub mod Shares
