pub mod Refusals
pub mod Blocks
