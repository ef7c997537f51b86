pub mod Plain
pub mod Carried
pub mod Laws
