mod Upwards
mod PartByPart
mod Stores
mod Sizes
mod Counts
mod Touches
mod Landings
mod ByHeader
mod Visits
mod Minima
mod Told
pub mod Ends
pub mod Fixed
