pub mod Spending
pub mod Preparing
