pub mod Records
pub mod Tally
