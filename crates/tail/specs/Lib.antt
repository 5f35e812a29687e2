pub mod Last
pub mod Chunks
