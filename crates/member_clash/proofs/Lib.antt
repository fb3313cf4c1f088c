pub mod Puts
pub mod Heads
pub mod Sharing
