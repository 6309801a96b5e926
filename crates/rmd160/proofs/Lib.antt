pub mod Taken
pub mod Turns
