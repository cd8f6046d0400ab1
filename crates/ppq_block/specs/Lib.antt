pub use Rattle.ppq_record.specs as ppq_record
pub mod Block
pub mod Chain
pub mod Queue
pub mod Told
