pub mod Choice
pub mod Gaining
pub mod Lengths
pub mod Reaches
pub mod Steps
