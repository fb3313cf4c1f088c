pub mod Read
pub mod Steps
pub mod UseReads
pub mod PartReads
pub mod OrderReads
pub mod TypeReads
pub mod Facts
pub mod SetFacts
