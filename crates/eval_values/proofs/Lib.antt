pub mod Compose
pub mod Each
pub mod Needs
pub mod ListTexts
pub mod Still
pub mod Settled
pub mod Strings
pub mod Sums
mod Orders
pub mod TextArguments
pub mod Limited
pub mod Copied
mod Objects
pub mod Converts
