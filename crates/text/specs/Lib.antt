pub mod Text
pub mod Examples
pub mod Room
