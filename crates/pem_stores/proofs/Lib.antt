pub mod Blocks
pub mod Choices
pub mod Kept
pub mod Noted
pub mod Orders
