pub mod Numbers
pub mod RoundTrip
