pub mod Changes
pub mod Laws
pub mod Maps
pub mod Plans
pub mod Uses
