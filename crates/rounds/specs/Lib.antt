pub mod Rounds
pub mod Engine
