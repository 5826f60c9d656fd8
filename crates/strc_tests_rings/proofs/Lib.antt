mod Stepping
mod Collecting
