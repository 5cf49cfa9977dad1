pub mod Rows
pub mod Runs
pub mod Steps
