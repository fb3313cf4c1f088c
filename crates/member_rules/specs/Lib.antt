pub mod Overloads
