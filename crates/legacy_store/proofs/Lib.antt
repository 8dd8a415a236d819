mod Results
mod Joins
mod JoinedRows
mod Normal
mod Schemes
mod Hashes
mod Parts
mod ContentTexts
pub mod ScryptCosts
mod Opened
mod Locks
mod Rows
pub mod Unparted
pub mod Verdict
mod Stays
pub mod Closed
pub mod Conservative
pub mod Refused
