pub mod Membership
pub mod Graph
pub mod Points
pub mod Steps
pub mod Verdicts
