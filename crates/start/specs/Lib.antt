pub mod Next
pub mod Starting
