pub mod Searches
pub mod KindLemmas
pub mod Justified
pub mod FrozenWords
pub mod Behind
pub mod SlotSteps
pub mod Turning
