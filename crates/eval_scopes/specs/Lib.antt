pub mod Bindings
pub mod Blocks
pub mod Changes
pub mod Seen
pub mod Index
pub mod Marks
pub mod BindingList
pub mod Starts
