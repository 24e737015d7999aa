pub mod Encoded
pub mod Index
pub mod Points
pub mod Digits
