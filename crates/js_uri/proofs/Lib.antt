pub mod Outcomes
pub mod Escapes
pub mod Encodings
pub mod Decodings
pub mod Makes
pub mod Unchanged
pub mod RoundTrip
