pub mod Draws
pub mod Lines
pub mod Texts
pub mod Program
pub mod Reading
pub mod Spelling
pub mod Answers
