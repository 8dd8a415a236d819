mod PartSealing
mod BagLoops
mod Sizes
mod Texts
mod Opens
mod Steps
mod Once
