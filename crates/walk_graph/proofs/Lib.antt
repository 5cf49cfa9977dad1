pub mod Depths
pub mod BadDepths
pub mod Handing
