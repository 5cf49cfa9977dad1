pub mod Depths
pub mod Onward
