pub mod Search
pub mod After
pub mod Terms
pub mod Program
