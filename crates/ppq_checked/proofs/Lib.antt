pub mod Folds
pub mod Given
pub mod Noticed
pub mod Rows
pub mod Steps
pub mod Words
