pub mod Left
pub mod Here
