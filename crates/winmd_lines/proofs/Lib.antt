pub mod LineLaws
pub mod OwnerLaws
pub mod SortLaws
pub mod SettleLaws
pub mod IntegerLaws
