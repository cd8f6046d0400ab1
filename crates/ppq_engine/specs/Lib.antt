pub use Rattle.ppq_load.specs.ppq_array as ppq_array
pub use Rattle.ppq_load.specs.ppq_counts as ppq_counts
pub use Rattle.ppq_load.specs as ppq_load
pub use Rattle.ppq_load.specs.ppq_queue as ppq_queue
pub use Rattle.ppq_script.specs as ppq_script
pub use Rattle.ppq_load.specs.ppq_files.Reading as Reading
pub use Rattle.ppq_load.specs.ppq_files as ppq_files
pub use Rattle.ppq_text.specs as ppq_text
pub use Rattle.ppq_load.specs.Refusal as Refusal
pub mod Bounds
pub mod Calls
pub mod Deferred
pub mod Ends
pub mod Examples
pub mod Files
pub mod Frames
pub mod Gathers
pub mod Limits
pub mod Loads
pub mod Outcome
pub mod Output
pub mod Popping
pub mod Pops
pub mod Pushes
pub mod Running
pub mod Work
