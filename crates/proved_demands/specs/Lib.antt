pub mod Every
pub mod Run
pub mod Theorem
pub mod Boards
