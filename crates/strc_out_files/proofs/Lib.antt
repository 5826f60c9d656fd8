pub mod Outing
