pub mod Keys
pub mod Batch
pub mod Openings
pub mod Board
