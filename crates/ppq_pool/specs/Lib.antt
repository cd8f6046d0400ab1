pub use Rattle.ppq_core.specs as ppq_core
pub use Rattle.ppq_core.specs.ppq_record as ppq_record
pub use Rattle.ppq_table.specs as ppq_table
pub mod Hands
pub mod Histories
pub mod Known
pub mod Rule
pub mod Seats
pub mod Shown
