pub mod Places
pub mod Holding
pub mod Writing
pub mod Moving
