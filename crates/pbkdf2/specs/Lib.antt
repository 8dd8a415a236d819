pub mod Pbkdf2
pub mod Settings
pub mod Algorithm
pub mod Params
pub mod Hashes
pub mod Lanes
