pub use Rattle.ppq_outside.specs as ppq_outside
pub use Rattle.ppq_record.specs as ppq_record
pub mod Handling
pub mod Roster
pub mod Agenda
pub mod Parts
pub mod Rounds
pub mod Gone
