pub mod Schema
pub mod Widths
pub mod Codes
pub mod Given
pub mod Streams
pub mod Tables
pub mod Written
pub mod Faults
