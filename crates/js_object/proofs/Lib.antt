pub mod Readable
pub mod Ordered
pub mod Texts
pub mod Seen
pub mod Uses
mod Decimals
pub mod Lengths
pub mod Orders
pub mod Settled
