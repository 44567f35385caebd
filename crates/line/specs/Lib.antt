pub mod Numerals
pub mod Pages
