pub mod Trees
pub mod Sizes
pub mod Found
pub mod Lines
pub mod Asked
pub mod Cuts
pub mod Composing
