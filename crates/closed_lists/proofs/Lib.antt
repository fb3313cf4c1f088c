mod Examples
pub mod Positions
pub mod Meetings
pub mod Moving
