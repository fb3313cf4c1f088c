pub mod Nothing
pub mod Grown
