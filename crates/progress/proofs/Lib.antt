pub mod Running
pub mod Unique
