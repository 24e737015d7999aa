pub mod Pieces
pub mod Numbers
pub mod Turns
pub mod Entered
pub mod Played
pub mod Written
pub mod Kept
pub mod Told
