pub use Rattle.ppq_fetch.specs.ppq_array as ppq_array
pub use Rattle.ppq_fetch.specs.ppq_block as ppq_block
pub use Rattle.ppq_budget.specs as ppq_budget
pub use Rattle.ppq_fetch.specs as ppq_fetch
pub use Rattle.ppq_fetch.specs.ppq_lane as ppq_lane
pub use Rattle.ppq_fetch.specs.ppq_outside as ppq_outside
pub mod Emptied
pub mod Examples
pub mod Extracted
