pub mod NameLaws
pub mod TextLaws
pub mod RowLaws
pub mod Closing
pub mod FlagLaws
pub mod TwiceLaws
pub mod RuleLaws
