pub mod Chains
pub mod Reading
pub mod Stepped
