pub mod TableLaws
pub mod ReservedLaws
