pub mod Counting
pub mod Paired
mod Pairwise
pub mod Turned
