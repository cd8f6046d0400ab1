pub use Rattle.ppq_outside.specs as ppq_outside
pub mod Gathering
