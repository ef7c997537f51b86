pub mod Recovering
pub mod Bad
pub mod Fresh
pub mod Opens
