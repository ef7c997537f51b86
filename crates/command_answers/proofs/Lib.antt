pub mod Seen
pub mod Named
pub mod Ready
pub mod Passed
