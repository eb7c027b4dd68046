pub mod Held
pub mod Spans
pub mod Moves
pub mod Rings
pub mod Laws
