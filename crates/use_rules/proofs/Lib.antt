pub mod Counts
pub mod Anys
pub mod Viewed
