pub mod CapLaws
pub mod CountLaws
pub mod StepLaws
pub mod OrderLaws
