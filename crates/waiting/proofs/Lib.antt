pub mod Alike
pub mod Examples
pub mod Heads
pub mod Places
pub mod Unique
