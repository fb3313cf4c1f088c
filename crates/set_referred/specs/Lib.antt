pub mod Referred
