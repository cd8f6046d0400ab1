pub use Rattle.ppq_script.specs.ppq_outside as ppq_outside
pub use Rattle.ppq_record.specs as ppq_record
pub use Rattle.ppq_script.specs as ppq_script
pub mod Hello
pub mod Meaning
pub mod Requests
