pub mod Beginning
pub mod Line
