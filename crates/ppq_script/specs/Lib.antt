pub use Rattle.ppq_files.specs as ppq_files
pub use Rattle.ppq_outside.specs as ppq_outside
pub use Rattle.ppq_record.specs as ppq_record
pub mod Checking
pub mod Command
pub mod Files
pub mod Head
pub mod Lines
pub mod Meaning
pub mod Number
pub mod Parts
pub mod Reading
pub mod Sessions
pub mod Shown
pub mod Taken
pub mod Words
