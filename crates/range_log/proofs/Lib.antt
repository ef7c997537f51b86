pub mod Clear
pub mod Apart
pub mod ByLists
pub mod Hold
