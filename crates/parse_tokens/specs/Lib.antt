pub mod Words
pub mod Reserved
pub mod Tokens
pub mod Lengths
pub mod Seen
pub mod Steps
