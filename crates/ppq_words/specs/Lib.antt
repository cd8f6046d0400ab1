pub use Rattle.ppq_budget.specs as ppq_budget
pub use Rattle.ppq_script.specs.ppq_outside as ppq_outside
pub use Rattle.ppq_script.specs.ppq_record as ppq_record
pub use Rattle.ppq_script.specs as ppq_script
pub mod Command
pub mod Given
pub mod Meaning
pub mod Reading
pub mod ServeMeaning
pub mod ServeReading
pub mod SimMeaning
pub mod SimReading
pub mod Strays
pub mod SweepMeaning
pub mod SweepReading
pub mod Usage
pub mod Uses
