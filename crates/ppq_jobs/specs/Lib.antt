pub use Rattle.ppq_engine.specs.ppq_array as ppq_array
pub use Rattle.ppq_engine.specs as ppq_engine
pub use Rattle.ppq_event.specs as ppq_event
pub use Rattle.ppq_engine.specs.ppq_files as ppq_files
pub use Rattle.ppq_event.specs.ppq_handler as ppq_handler
pub use Rattle.ppq_engine.specs.ppq_load as ppq_load
pub use Rattle.ppq_event.specs.ppq_outside as ppq_outside
pub use Rattle.ppq_event.specs.ppq_queue as ppq_queue
pub use Rattle.ppq_event.specs.ppq_record as ppq_record
pub use Rattle.ppq_engine.specs.ppq_load.ppq_session as ppq_session
pub use Rattle.ppq_sweep.specs as ppq_sweep
pub mod Asked
pub mod Edges
pub mod Ending
pub mod Loading
pub mod Sweeping
