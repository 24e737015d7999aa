mod Entries
mod ByLength
mod Table
mod Colons
mod Scan
pub mod OneSource
