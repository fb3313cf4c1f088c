pub mod TurnLaws
pub mod RowLaws
