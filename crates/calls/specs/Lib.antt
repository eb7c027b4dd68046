pub mod Answers
pub mod Checks
pub mod Effects
pub mod Lending
pub mod Told
pub mod Spares
