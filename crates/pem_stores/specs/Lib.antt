pub mod Keys
pub mod Certificates
pub mod Choice
pub mod EachOnce
pub mod ChainOrder
pub mod Entries
pub mod Texts
pub mod Laws
