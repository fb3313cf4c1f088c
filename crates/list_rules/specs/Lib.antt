pub mod Names
pub mod Texts
pub mod Rows
pub mod Open
