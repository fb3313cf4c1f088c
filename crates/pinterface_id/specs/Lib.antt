pub mod Views
pub mod Stack
pub mod Found
pub mod Progress
pub mod Listing
pub mod Gathering
