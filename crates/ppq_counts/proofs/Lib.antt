pub mod Accounts
pub mod Backed
pub mod Counted
pub mod Levels
pub mod Literal
pub mod Paid
pub mod Passed
