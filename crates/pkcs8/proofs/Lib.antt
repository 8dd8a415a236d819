pub mod Faults
pub mod FurtherFields
pub mod Spellings
mod Elements
mod ShortKeys
pub mod Documents
pub mod EncryptedKeys
pub mod KeyTypes
pub mod Drawn
