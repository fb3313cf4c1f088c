pub mod CellLaws
pub mod RowLaws
pub mod SizeLaws
pub mod NamedLaws
