pub mod Leases
pub mod Mixes
pub mod Plays
pub mod Rings
pub mod Ticks
