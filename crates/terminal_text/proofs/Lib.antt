mod Json
mod Messages
mod Shell
mod Shown
mod Text
