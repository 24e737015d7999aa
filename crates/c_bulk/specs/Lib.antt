pub mod Reserving
