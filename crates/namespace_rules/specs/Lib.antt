pub mod Spaces
pub mod Pass
