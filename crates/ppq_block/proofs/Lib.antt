pub use Rattle.ppq_record.proofs as ppq_record
pub mod Blocks
pub mod Buffers
pub mod Lists
