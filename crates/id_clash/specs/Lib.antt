pub mod Items
pub mod Pass
