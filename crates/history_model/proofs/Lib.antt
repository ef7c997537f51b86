pub mod Longer
pub mod Legal
