pub mod Sections
pub mod Records
