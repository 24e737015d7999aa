mod Calls
mod Joined
mod Pads
mod Fillers
mod Parts
mod Made
mod Replacements
mod Elements
mod Taken
pub mod Lookups
