pub mod Trees
mod Keys
