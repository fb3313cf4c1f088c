pub mod KindLaws
pub mod PlainLaws
