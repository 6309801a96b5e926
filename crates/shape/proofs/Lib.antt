pub mod Reach
pub mod Parts
pub mod Classes
pub mod Hex
pub mod Decimal
pub mod Loops
