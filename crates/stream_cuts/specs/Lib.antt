pub mod Streams
pub mod Cuts
pub mod States
pub mod Forced
pub mod Amounts
pub mod Laws
