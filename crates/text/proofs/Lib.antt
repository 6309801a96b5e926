pub mod Appended
pub mod Halves
pub mod Numbers
pub mod Placed
pub mod Zeros
