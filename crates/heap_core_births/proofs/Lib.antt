pub mod Spans
pub mod Joins
pub mod Moving
