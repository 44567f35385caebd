pub mod Reaching
pub mod Starting
pub mod Unique
