pub mod Facts
pub mod UseFits
pub mod Fitting
pub mod Texts
pub mod Defaults
pub mod Counts
pub mod Writing
