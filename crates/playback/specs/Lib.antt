pub mod Playing
pub mod PlaybackBook
pub mod PlaybackTicks
pub mod Situations
