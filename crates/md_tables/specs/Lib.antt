pub mod Numbers
pub mod Lists
pub mod Rows
pub mod Faults
pub mod Reading
pub mod Stops
pub mod Head
pub mod Writable
