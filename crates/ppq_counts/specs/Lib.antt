pub mod Account
pub mod Tally
