pub use Rattle.ppq_script.proofs.ppq_outside as ppq_outside
pub use Rattle.ppq_script.proofs as ppq_script
mod Found
mod Law
mod Lines
mod Names
mod Parse
mod Parts
mod Queue
mod Rows
mod ServeLaw
mod SimLaw
mod Spelled
mod SweepLaw
mod Told
