pub mod Reserves
pub mod Claims
pub mod Making
pub mod Interning
pub mod Trying
