pub mod Entries
pub mod Parts
pub mod Records
pub mod Unique
