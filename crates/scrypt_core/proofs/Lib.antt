mod Pieces
mod Blocks
mod Bounds
