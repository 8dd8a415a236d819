pub mod KeyTexts
pub mod Matches
pub mod Refusals
pub mod Wrapped
