pub mod FrontLaws
pub mod SpaceLaws
pub mod MetLaws
