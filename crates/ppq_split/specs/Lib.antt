pub use Rattle.ppq_record.specs as ppq_record
pub mod Bounds
pub mod Cut
pub mod Edge
pub mod Mark
