pub mod Moves
pub mod Shapes
