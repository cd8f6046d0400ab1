pub use Rattle.ppq_outside.specs as ppq_outside
pub use Rattle.ppq_record.specs as ppq_record
pub mod Filling
pub mod Lengths
pub mod Pieces
pub mod Reading
pub mod Whole
