pub mod Contents
pub mod Codes
pub mod Views
pub mod Falls
pub mod Fine
pub mod Puts
pub mod Indexed
pub mod Seen
