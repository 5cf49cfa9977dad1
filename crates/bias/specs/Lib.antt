pub mod Load
pub mod Step
