pub mod MarkLaws
pub mod TextLaws
pub mod StepLaws
pub mod PlaceLaws
pub mod ReadLaws
