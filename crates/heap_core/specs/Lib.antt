pub mod Core
pub mod Events
pub mod Headers
pub mod Steps
