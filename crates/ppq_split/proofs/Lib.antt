pub use Rattle.ppq_record.proofs as ppq_record
pub mod Cuts
pub mod Edges
pub mod Filled
pub mod Marks
pub mod Windows
