pub mod Templates
pub mod Finding
pub mod Cutting
pub mod Replacements
