pub use Rattle.ppq_handler.specs as ppq_handler
pub use Rattle.ppq_handler.specs.ppq_outside as ppq_outside
pub use Rattle.ppq_handler.specs.ppq_record as ppq_record
pub use Rattle.ppq_queue.specs as ppq_queue
pub use Rattle.ppq_text.specs as ppq_text
pub mod Waiting
pub mod Going
pub mod Simulated
