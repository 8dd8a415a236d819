pub mod Xors
pub mod Pieces
pub mod Written
pub mod Counts
pub mod OneReading
mod LaneKeys
