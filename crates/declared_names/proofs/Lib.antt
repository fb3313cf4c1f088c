pub mod Own
pub mod Full
pub mod Worded
