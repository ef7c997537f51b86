pub mod State
pub mod Answers
pub mod Histories
pub mod Laws
