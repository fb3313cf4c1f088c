mod Examples
pub mod Members
pub mod SearchLaws
pub mod Merges
pub mod Marking
pub mod Steps
pub mod ClosureLaws
