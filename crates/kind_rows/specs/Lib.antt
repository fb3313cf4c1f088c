pub mod Makers
pub mod Said
