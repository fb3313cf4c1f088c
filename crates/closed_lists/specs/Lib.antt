pub mod Views
pub mod Indexes
pub mod Closing
pub mod Closures
