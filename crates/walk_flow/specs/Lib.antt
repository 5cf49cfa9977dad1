pub mod Terms
pub mod Flow
pub mod Permission
