pub mod Kept
pub mod Gathered
pub mod After
pub mod Tried
pub mod Interned
