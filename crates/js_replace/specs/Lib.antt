pub mod Matches
pub mod Substitution
pub mod Replaced
pub mod Parts
pub mod Fronts
pub mod Use
pub mod Pieces
