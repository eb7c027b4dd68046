pub mod Doubling
pub mod Wrapping
