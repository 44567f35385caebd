pub mod Parts
pub mod Records
pub mod Answers
pub mod Standing
