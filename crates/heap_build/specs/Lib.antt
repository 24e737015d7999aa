pub mod Spelled
pub mod Built
pub mod Spells
pub mod Room
