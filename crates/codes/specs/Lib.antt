pub mod Numbered
pub mod Refusals
pub mod States
pub mod EntryKinds
pub mod Causes
