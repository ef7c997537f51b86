pub mod Area
pub mod Laws
pub mod Merged
pub mod Held
pub mod Spots
