pub mod Lang
pub mod Reader
pub mod Refused
pub mod Tables
pub mod Terminals
pub mod Grammar
pub mod MarksAndWords
pub mod Reading
