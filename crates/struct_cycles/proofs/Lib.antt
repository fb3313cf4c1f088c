pub mod PlaceLaws
pub mod Links
