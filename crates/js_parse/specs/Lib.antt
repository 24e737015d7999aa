pub mod FirstFault
pub mod NameFaults
pub mod NameWalk
pub mod Names
pub mod ProtoKeys
pub mod Spells
pub mod Told
pub mod Faults
