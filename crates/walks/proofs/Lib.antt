pub mod Again
pub mod Arrays
pub mod Fields
pub mod Literals
pub mod Locals
pub mod Relend
