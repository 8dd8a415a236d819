pub mod Ident
pub mod Value
pub mod ParamsString
pub mod Salt
pub mod Output
pub mod Error
pub mod PasswordHash
pub mod Remainders
