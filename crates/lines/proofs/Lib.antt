pub mod Left
pub mod Short
pub mod Unique
