pub mod Placed
pub mod Shapes
pub mod Reading
pub mod Strict
pub mod Wrong
pub mod One
