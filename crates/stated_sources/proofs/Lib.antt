pub mod Stating
pub mod Owners
