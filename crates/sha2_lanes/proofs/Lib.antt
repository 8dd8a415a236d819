pub mod LaneLemmas
mod OctetWords
mod TwoBlocks
