pub mod Salsa
pub mod BlockMix
pub mod Scrypt
pub mod Params
pub mod ScryptError
