mod Asking
mod Ranges
mod Reading
