pub mod Pages
pub mod Digits
pub mod Reading
