pub mod Pairing
pub mod Roots
pub mod Counting
pub mod ClearBlocks
pub mod Standing
pub mod Opening
