pub mod Ending
pub mod Opens
