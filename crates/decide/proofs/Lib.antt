pub mod Deciding
pub mod Modes
pub mod Standing
pub mod Unique
