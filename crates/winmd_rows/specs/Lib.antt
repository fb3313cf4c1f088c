pub mod Faults
pub mod Values
pub mod Bits
pub mod Indices
