mod Examples
pub mod PathLaws
pub mod NameLaws
pub mod Building
