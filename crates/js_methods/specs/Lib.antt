pub mod Places
pub mod Searching
pub mod Cutting
pub mod Trimming
pub mod Blanks
pub mod Building
pub mod Testing
pub mod Waiting
