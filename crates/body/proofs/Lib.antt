pub mod Filling
pub mod Names
pub mod Unique
pub mod Walks
