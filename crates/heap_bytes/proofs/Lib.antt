pub mod PointBytes
pub mod Rows
pub mod Reading
pub mod Pieces
pub mod AsciiRuns
pub mod Runs
pub mod WidePoints
