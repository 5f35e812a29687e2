pub mod Text
pub mod Sample
pub mod Kept
pub mod Drained
