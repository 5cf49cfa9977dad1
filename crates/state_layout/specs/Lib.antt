pub mod Codecs
pub mod Layout
pub mod IsState
