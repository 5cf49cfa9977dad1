pub mod Fresh
pub mod Wait
pub mod Bounds
pub mod Setters
