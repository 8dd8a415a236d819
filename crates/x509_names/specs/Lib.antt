pub mod Printable
pub mod HexText
pub mod Parts
pub mod PartsReading
pub mod Time
pub mod Values
pub mod Names
pub mod NamesReading
