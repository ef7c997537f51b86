pub mod Built
pub mod Operations
pub mod Batches
pub mod BatchLaws
pub mod CutLaws
