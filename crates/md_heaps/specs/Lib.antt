pub mod Blobs
pub mod Integers
pub mod Faults
pub mod Guids
pub mod Heaps
pub mod Index
pub mod Reading
pub mod Texts
