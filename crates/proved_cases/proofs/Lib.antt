pub mod AllRight
pub mod Named
pub mod Example
pub mod Limits
