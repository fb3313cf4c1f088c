pub mod ItemLaws
pub mod WalkLaws
pub mod PassLaws
