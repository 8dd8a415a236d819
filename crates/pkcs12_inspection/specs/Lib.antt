pub mod Listed
pub mod Pairs
