pub mod Going
pub mod Settled
pub mod Stages
pub mod Decoded
pub mod Copied
pub mod Made
pub mod Texts
