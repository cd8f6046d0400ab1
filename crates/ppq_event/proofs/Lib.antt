pub use Rattle.ppq_handler.proofs as ppq_handler
pub use Rattle.ppq_queue.proofs as ppq_queue
pub mod Results
pub mod Gathered
pub mod Listed
pub mod Waited
pub mod Taken
pub mod Made
pub mod Turned
pub mod Finished
pub mod Rounded
