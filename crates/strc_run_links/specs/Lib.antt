pub mod States
pub mod Cores
pub mod Seats
pub mod Children
pub mod Working
pub mod Links
pub mod Ends
