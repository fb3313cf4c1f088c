pub mod CapLaws
pub mod PassLaws
