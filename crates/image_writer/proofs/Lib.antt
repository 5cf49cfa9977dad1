pub mod Stores
pub mod Words
pub mod HeaderBytes
pub mod Judged
pub mod RoundTrip
pub mod Longest
