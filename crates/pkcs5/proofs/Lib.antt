pub mod Drawn
pub mod Numbers
pub mod Octets
pub mod Openings
pub mod Refused
pub mod Uniqueness
pub mod Writings
