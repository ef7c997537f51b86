pub mod Fronts
pub mod Codes
pub mod Free
pub mod Logged
pub mod Pending
pub mod Entering
pub mod Left
pub mod Held
