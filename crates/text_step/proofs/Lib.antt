pub mod Shown
pub mod Compared
pub mod Parts
