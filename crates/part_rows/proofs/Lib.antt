pub mod GrownLaws
pub mod ResultLaws
