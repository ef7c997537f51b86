pub mod Moves
pub mod OneStep
pub mod Ranges
pub mod SealSteps
pub mod Left
pub mod Records
