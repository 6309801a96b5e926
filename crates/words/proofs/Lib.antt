pub mod Cyclic
pub mod Digits
pub mod Numbers
pub mod Copies
pub mod Runs
