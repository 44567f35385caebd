pub mod Arriving
pub mod Standing
pub mod Taking
pub mod Unique
