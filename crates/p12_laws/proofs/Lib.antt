mod Spelled
mod SpelledStores
mod Alike
mod Made
