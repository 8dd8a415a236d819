pub mod AlgorithmRows
pub mod ContentRows
pub mod BagRows
pub mod Public
pub mod Paddings
pub mod Pbes2
pub mod Opened
pub mod Macs
pub mod Fits
pub mod DefinitionLaws
mod Ends
mod Walks
mod ContentWalks
mod BagWalks
mod UnitsPass
mod Characters
mod Refusals
mod OneCiphertext
mod HeldBags
pub mod TextRefusals
pub mod Again
pub mod MadeTexts
pub mod MadeSizes
mod MadeRefusals
