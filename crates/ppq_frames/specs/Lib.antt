pub use Rattle.ppq_outside.specs as ppq_outside
pub mod Buffered
pub mod Frames
