pub mod Surrogates
pub mod Given
pub mod Behind
