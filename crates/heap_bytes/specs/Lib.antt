pub mod Points
pub mod Spellings
pub mod Reading
