pub mod Prefixes
pub mod Puts
pub mod Weights
pub mod Putting
pub mod Numbering
pub mod Batching
