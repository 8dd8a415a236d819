pub mod KeyBlocks
mod Chains
mod PaddedTexts
pub mod Uniqueness
mod PaddingExamples
mod Field
mod Hashed
mod Stream
mod Sealed
