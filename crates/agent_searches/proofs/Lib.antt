pub mod Refusing
pub mod Searched
