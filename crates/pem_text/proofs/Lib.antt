mod Blanks
mod Lines
mod LineCuts
mod ReadBack
mod RoundTrip
mod Symbols
