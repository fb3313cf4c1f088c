pub mod Walks
pub mod Uses
pub mod Good
pub mod Proper
pub mod Reading
