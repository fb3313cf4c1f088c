pub mod Kinds
pub mod Symbols
pub mod Terminals
pub mod Trees
pub mod Views
