pub use Rattle.ppq_record.proofs as ppq_record
pub mod Among
pub mod Buffers
pub mod Parts
pub mod Places
pub mod Reaching
pub mod Renumbered
pub mod Slots
pub mod Trade
