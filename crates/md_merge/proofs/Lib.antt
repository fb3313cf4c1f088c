pub mod UnionLaws
pub mod MergeLaws
pub mod Examples
