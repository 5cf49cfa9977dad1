mod TypesAndSlots
pub mod EveryDrive
pub mod Boards
