pub mod Counts
pub mod Blocks
