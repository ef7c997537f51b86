pub mod Kinds
pub mod Tables
pub mod Marks
pub mod Verdicts
pub mod Listed
pub mod Spelled
pub mod Standing
