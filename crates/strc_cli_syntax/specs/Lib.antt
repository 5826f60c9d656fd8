-- What is told of a token that can't stand where it is.
pub mod Words
