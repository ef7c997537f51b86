pub mod Rising
pub mod Clashing
pub mod Keyed
pub mod HeldMarks
pub mod Room
pub mod Told
pub mod BookOf
