pub mod Order
pub mod Bounds
pub mod Index
pub mod Within
