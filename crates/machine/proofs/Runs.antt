pub mod Accepted
pub mod Apart
pub mod EveryRun
