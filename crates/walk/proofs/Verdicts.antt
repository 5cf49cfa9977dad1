pub mod OfWalks
pub mod OfImage
pub mod Fast
