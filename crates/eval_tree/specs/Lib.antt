pub mod Keys
pub mod Methods
pub mod Tree
