pub mod Known
pub mod Lines
pub mod Seen
pub mod Tight
