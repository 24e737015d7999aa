pub mod Lists
pub mod Delimited
pub mod Separators
pub mod Lengths
pub mod Runs
