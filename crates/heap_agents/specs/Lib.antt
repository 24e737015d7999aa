pub mod Shared
pub mod Interned
pub mod Searched
pub mod Held
pub mod Reserved
pub mod Ready
pub mod Room
