pub mod BlockFault
pub mod Boards
