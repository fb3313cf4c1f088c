pub mod Names
pub mod Indexed
