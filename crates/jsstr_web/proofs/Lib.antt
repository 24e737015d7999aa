pub mod First
pub mod Runs
