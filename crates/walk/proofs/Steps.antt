pub mod Moves
pub mod AsMoves
pub mod History
pub mod Ahead
pub mod LatestStart
