pub mod CertificateFronts
pub mod Times
pub mod Strings
pub mod NameTexts
pub mod Numbers
