pub mod Layout
pub mod Samples
pub mod Filter
pub mod Mirror
pub mod Filters
pub mod Keep
pub mod Keepers
pub mod Laws
