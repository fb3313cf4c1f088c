pub mod Numbers
pub mod InstanceRows
pub mod Texted
pub mod Exact
pub mod Seen
