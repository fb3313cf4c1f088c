pub mod Unions
pub mod Neighbours
pub mod Merged
