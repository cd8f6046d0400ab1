pub use Rattle.ppq_engine.proofs as ppq_engine
pub mod Asked
pub mod Concluding
pub mod Ended
pub mod Lending
pub mod Serving
pub mod Talked
