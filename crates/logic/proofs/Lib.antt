pub mod Choice
pub mod Each
pub mod Has
pub mod Lists
pub mod Lookup
