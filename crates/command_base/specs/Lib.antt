pub mod Danger
pub mod Origin
