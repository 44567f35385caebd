pub mod Room
pub mod State
