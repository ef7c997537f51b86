mod Examples
pub mod Counting
pub mod Listing
mod Measured
pub mod Reaching
mod Standing
pub mod Trying
