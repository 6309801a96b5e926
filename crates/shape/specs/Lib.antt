pub mod Shape
pub mod Digits
pub mod Examples
