pub mod Blocks
pub mod Calls
pub mod Claims
pub mod Transfers
