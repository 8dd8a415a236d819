pub mod PasswordSizes
mod Sums
pub mod Texts
mod Turns
