pub mod Cause
pub mod Files
pub mod Whole
pub mod Named
pub mod Listed
