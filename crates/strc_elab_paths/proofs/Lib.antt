mod Lasts
mod Streams
