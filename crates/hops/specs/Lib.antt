pub mod Walks
pub mod Hops
pub mod Rest
