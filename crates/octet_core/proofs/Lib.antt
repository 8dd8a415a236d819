pub mod Numerals
pub mod Extended
mod Pieces
