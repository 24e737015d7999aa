pub mod Prefixes
pub mod Told
