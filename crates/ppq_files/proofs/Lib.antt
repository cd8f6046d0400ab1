pub mod Asked
pub mod Given
pub mod Truth
pub mod Widths
