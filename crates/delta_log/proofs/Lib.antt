pub mod Over
pub mod TwoBits
pub mod Writes
pub mod Records
pub mod Sorted
pub mod Twice
pub mod Held
