pub mod EveryStep
pub mod Loads
pub mod Runs
pub mod Demand
pub mod Apart
pub mod Boards
