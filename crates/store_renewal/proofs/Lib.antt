mod PartTexts
mod Renewing
mod Settling
