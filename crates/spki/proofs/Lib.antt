pub mod Orders
pub mod Spellings
