pub mod Sessions
pub mod Turns
