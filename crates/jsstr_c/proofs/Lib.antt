pub mod Same
pub mod Slots
pub mod Entering
