pub mod Lanes
pub mod Text
pub mod Units
