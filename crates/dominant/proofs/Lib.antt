pub mod DominantStage
pub mod Unique
