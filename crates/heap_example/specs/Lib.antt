pub mod Greeting
