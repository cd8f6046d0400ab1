pub mod Order
pub mod Fronts
pub mod Taken
pub mod Counting
pub mod Listed
pub mod ByteOrder
pub mod Joined
