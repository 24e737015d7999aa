pub mod Interned
pub mod Answered
pub mod Opened
pub mod Boarded
pub mod Batched
