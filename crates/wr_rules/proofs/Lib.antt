mod Examples
mod UseExamples
mod MemberExamples
mod SetExamples
pub mod Shadows
pub mod ClosedLaws
pub mod CycleLaws
pub mod ClashLaws
pub mod CountLaws
pub mod AbiLaws
