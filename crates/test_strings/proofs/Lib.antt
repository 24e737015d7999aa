pub mod Going
pub mod Turning
pub mod Wide
