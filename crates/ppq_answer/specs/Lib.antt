pub use Rattle.ppq_frames.specs as ppq_frames
pub use Rattle.ppq_requests.specs as ppq_requests
pub use Rattle.ppq_engine.specs as ppq_engine
pub mod Answers
pub mod Serving
pub mod Talking
pub mod Waiting
