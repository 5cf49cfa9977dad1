pub mod ByTest
mod OfState
