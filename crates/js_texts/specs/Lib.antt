pub mod Answers
pub mod Texts
pub mod Joined
pub mod Delimited
pub mod Use
