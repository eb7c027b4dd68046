pub mod Source
pub mod Bytes
pub mod Stepping
