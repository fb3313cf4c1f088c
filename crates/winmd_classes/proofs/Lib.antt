pub mod SetLaws
pub mod SeenLaws
pub mod EachLaws
pub mod MakingLaws
pub mod PartLaws
