pub mod Keys
pub mod Viewed
