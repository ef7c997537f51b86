pub mod Books
pub mod Held
pub mod Kept
pub mod Marked
pub mod Order
