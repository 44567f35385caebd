pub mod Accepting
pub mod Asking
pub mod Examples
pub mod Fitting
pub mod Reading
pub mod Unique
