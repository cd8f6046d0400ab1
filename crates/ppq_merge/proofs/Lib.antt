pub mod Between
pub mod Heads
pub mod Merged
pub mod Merging
pub mod Pieces
pub mod Planned
pub mod Seats
pub mod Used
