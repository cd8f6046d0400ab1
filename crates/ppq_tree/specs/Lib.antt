pub use Rattle.ppq_record.specs as ppq_record
pub mod Levels
pub mod Tree
pub mod Used
