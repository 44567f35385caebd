pub mod Cases
pub mod Numbers
pub mod Once
pub mod Parts
pub mod Stages
pub mod Unique
