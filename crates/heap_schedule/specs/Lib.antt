pub mod Fields
pub mod Lines
pub mod Text
pub mod Play
pub mod Kept
pub mod Shown
pub mod Outcome
