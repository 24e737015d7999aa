pub mod Counts
pub mod FilesState
pub mod SinkState
pub mod Report
pub mod MemFiles
pub mod MemSink
pub mod Content
