pub mod Begun
pub mod Devices
pub mod Named
