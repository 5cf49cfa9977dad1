pub mod Digits
pub mod Joined
pub mod Read
