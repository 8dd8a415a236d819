pub mod Numbers
pub mod Derivation
pub mod Password
pub mod Mac
