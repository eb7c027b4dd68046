pub mod Bounds
pub mod Weights
pub mod Line
pub mod FilterSteps
pub mod Mixing
pub mod Joins
