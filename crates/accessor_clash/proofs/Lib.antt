pub mod AbiTallies
mod Bytewise
mod Pieces
