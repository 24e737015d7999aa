pub mod Loading
pub mod Probing
