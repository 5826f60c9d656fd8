pub mod Names
pub mod Results
pub mod Tables
pub mod Scopes
