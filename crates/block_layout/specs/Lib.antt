pub mod Sizes
pub mod Super
