pub mod Captures
pub mod Coming
pub mod HostParts
pub mod Moved
pub mod CopySteps
