pub mod Numbers
pub mod Rows
pub mod Scan
pub mod GoodHeader
pub mod Longest
