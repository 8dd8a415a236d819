pub mod Logins
pub mod Outcomes
pub mod Resets
