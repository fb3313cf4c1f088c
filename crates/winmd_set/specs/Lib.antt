pub mod Stated
pub mod Counts
pub mod Steps
pub mod Order
