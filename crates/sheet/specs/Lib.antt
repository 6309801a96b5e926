pub mod Sheet
pub mod Reading
pub mod Examples
pub mod Answers
