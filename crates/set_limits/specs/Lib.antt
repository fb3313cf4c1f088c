pub mod Counts
pub mod Pass
