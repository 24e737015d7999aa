pub mod Owned
pub mod OwnedText
pub mod Handles
pub mod Lending
