pub mod Weights
pub mod Past
