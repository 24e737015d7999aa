pub mod Texts
pub mod Joins
pub mod Turns
pub mod Filling
pub mod Settling
pub mod Keeping
