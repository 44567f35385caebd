pub mod Finding
pub mod Linking
pub mod Unique
