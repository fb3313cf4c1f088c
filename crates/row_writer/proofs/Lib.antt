pub mod HeapLaws
pub mod CellLaws
pub mod LineLaws
pub mod TightLaws
