pub mod Outcome
pub mod Pins
