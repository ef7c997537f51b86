pub mod Lists
pub mod Batching
pub mod Cutting
