pub mod Updates
pub mod Held
pub mod Accounts
pub mod Kept
pub mod Space
