pub mod Images
pub mod Table
pub mod Example
pub mod Limits
