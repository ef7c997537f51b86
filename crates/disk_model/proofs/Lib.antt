pub mod Record
pub mod Elapsed
pub mod Crash
pub mod Still
pub mod Runs
pub mod Places
pub mod Pick
pub mod Replays
