mod Union
pub mod Landings
