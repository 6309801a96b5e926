pub mod Numbers
pub mod Rows
pub mod Faults
pub mod Demand1
pub mod Demand2
pub mod Sheets
pub mod Demand3
pub mod Table
