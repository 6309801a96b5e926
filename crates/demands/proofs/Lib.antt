pub mod Faults
pub mod Demand1
pub mod Sheets
pub mod Listed
pub mod Held
pub mod Demand3
