pub use Rattle.ppq_record.proofs as ppq_record
pub mod Used
pub mod Levels
pub mod Order
pub mod Tree
pub mod Carried
