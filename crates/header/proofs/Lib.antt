pub mod Accepted
pub mod Unique
