pub mod Blocks
pub mod Walk
pub mod IsVerdict
pub mod Index
pub mod Successors
pub mod Graph
pub mod Verdict
