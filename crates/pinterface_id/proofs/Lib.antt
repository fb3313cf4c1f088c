pub mod Times
pub mod PieceLaws
pub mod Moves
pub mod Instances
pub mod FoundLaws
pub mod Gatherings
