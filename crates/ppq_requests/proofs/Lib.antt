pub use Rattle.ppq_script.proofs as ppq_script
pub mod Operations
pub mod Sequences
mod Writing
