pub mod Said
pub mod Conditions
