pub use Rattle.ppq_core.proofs.ppq_record as ppq_record
pub use Rattle.ppq_table.proofs as ppq_table
pub mod Lists
pub mod Shown
pub mod Logged
pub mod Steps
pub mod Ends
pub mod Holding
pub mod Events
pub mod Looks
