pub mod Bounds
pub mod Codecs
pub mod Buffer
pub mod Judged
pub mod RoundTrip
