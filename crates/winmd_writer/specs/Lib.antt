pub mod Sorted
pub mod Finished
