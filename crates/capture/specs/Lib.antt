pub mod CaptureBook
pub mod Copies
pub mod Situations
