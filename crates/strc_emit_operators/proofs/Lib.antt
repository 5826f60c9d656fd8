mod Wrapping
mod Dividing
mod Shifting
mod Operators
