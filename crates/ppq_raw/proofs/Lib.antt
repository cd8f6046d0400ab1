pub mod Claimed
pub mod Parts
