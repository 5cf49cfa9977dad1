pub mod Closure
pub mod Least
