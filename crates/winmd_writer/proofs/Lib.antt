pub mod TightLaws
pub mod SortLaws
pub mod FinishLaws
pub mod TableLaws
