pub mod Inodes
pub mod Kept
pub mod Batches
pub mod Owned
pub mod Logging
pub mod Laws
pub mod Covers
pub mod Contents
