pub mod Bounds
pub mod Codes
pub mod Steps
pub mod Recorded
