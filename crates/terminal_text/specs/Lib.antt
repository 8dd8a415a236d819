pub mod Arguments
pub mod Hexadecimal
pub mod JsonString
pub mod Printable
pub mod ShellWord
