mod Parting
mod Windows
