pub mod Attrs
pub mod Records
