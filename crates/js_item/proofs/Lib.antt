pub mod Members
pub mod Sizes
pub mod Still
pub mod Finding
pub mod Values
pub mod Indexing
