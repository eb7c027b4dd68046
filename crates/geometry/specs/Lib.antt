pub mod Boundary
pub mod Rules
pub mod Checks
pub mod Pointers
pub mod Laws
