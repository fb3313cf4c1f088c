pub mod Images
pub mod Lines
pub mod Stops
pub mod Turns
