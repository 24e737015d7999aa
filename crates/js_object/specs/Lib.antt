pub mod Readable
pub mod Keys
pub mod Json
pub mod Steps
pub mod Use
pub mod Order
pub mod Laws
pub mod Settled
