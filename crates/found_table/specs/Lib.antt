pub mod Found
pub mod Views
pub mod Table
