pub mod BlobLaws
pub mod GuidLaws
pub mod HeapLaws
pub mod IndexLaws
pub mod TextLaws
pub mod ReadLaws
