pub mod Sets
pub mod Outcome
pub mod Sheet
pub mod Box
pub mod Hub
pub mod Rest
pub mod Calls
pub mod Samples
