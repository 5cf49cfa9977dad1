pub mod Types
pub mod Pins
pub mod Boards
