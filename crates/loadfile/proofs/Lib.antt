pub mod Body
pub mod Examples
pub mod Files
pub mod Passed
pub mod Refusing
pub mod Shown
pub mod Unique
