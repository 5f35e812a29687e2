pub mod Answers
pub mod Put
pub mod Writing
