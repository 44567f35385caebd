pub mod Asked
pub mod Examples
pub mod Listing
