pub mod Given
pub mod Seen
pub mod Placed
pub mod Indexed
pub mod Names
