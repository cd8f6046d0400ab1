pub mod Histories
pub mod Steps
pub mod Ends
pub mod Shown
