pub mod Lists
mod Lengths
pub mod Faults
mod Rows
mod Overwriting
mod ContentBags
mod ContentsInPlace
mod BagsInPlace
mod KeyWalks
pub mod Sole
pub mod Valid
mod Documents
mod Drawn
mod Places
mod Settling
mod Answering
pub mod Decided
mod Generated
mod SampleStore
mod SampleAnswering
mod OneText
mod StoredKeys
