pub mod EveryRow
pub mod Tasks
pub mod FlowKinds
