pub mod Lists
pub mod Tables
pub mod Scopes
pub mod Numbered
pub mod ScopeMaps
pub mod Results
