pub mod Command
pub mod Rules
pub mod Words
pub mod Parts
