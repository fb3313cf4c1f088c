pub mod Makers
pub mod Lines
pub mod Orders
pub mod UsedNames
pub mod Names
pub mod Cells
pub mod Positions
