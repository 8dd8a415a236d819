pub mod Algorithms
pub mod Rsa
pub mod Ec
pub mod Reading
pub mod Matching
pub mod Blocks
pub mod Keys
