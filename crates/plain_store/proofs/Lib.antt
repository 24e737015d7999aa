pub mod Entries
pub mod Consistency
