pub mod Layout
pub mod Calls
pub mod File
pub mod Examples
