pub mod Fitting
pub mod LaterForms
pub mod Alike
pub mod Stay
pub mod Agreeing
pub mod Keeps
