pub mod Chains
pub mod TapeBytes
pub mod Allowances
pub mod RisingMarks
