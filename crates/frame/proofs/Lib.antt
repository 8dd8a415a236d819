mod Written
mod Encoded
pub mod Lines
mod Pieces
mod LinedInputs
mod WordLists
mod Deciding
mod Decided
pub mod Commands
