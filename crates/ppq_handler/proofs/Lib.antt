pub mod Halves
pub mod Places
pub mod Rounds
pub mod Gone
