pub use Rattle.ppq_queue.specs as ppq_queue
pub use Rattle.ppq_queue.specs.ppq_heap.ppq_record as ppq_record
pub use Rattle.ppq_text.specs as ppq_text
pub use Rattle.ppq_text.specs.ppq_outside as ppq_outside
pub mod Levels
pub mod Notes
pub mod Queues
pub mod Swept
