pub mod Bytes
pub mod Padding
pub mod Stands
