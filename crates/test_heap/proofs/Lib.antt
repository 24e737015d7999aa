pub mod First
pub mod Making
pub mod Sessions
pub mod Words
