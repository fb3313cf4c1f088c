pub mod NameLemmas
pub mod HeaderLemmas
pub mod Headers
pub mod Laid
pub mod Roots
pub mod FoundLaws
