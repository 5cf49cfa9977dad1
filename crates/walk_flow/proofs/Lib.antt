pub mod ForeignEnd
pub mod Boxes
