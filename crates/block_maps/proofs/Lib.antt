mod Examples
pub mod Lists
pub mod Placing
mod Pointing
pub mod Whole
