pub use Rattle.ppq_engine.proofs as ppq_engine
pub use Rattle.ppq_event.proofs as ppq_event
pub use Rattle.ppq_sweep.proofs as ppq_sweep
pub mod Runs
pub mod Room
pub mod Loaded
pub mod Says
pub mod Clauses
pub mod FirstBad
pub mod FirstBytes
pub mod LibraryKept
pub mod EdgesLoaded
pub mod BothSlots
pub mod GraphSays
pub mod SweepClauses
