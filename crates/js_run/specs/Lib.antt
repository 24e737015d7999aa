pub mod Asked
pub mod Meant
pub mod Verdict
pub mod Moment
pub mod Cause
pub mod Outcome
pub mod Rows
pub mod Answer
