pub mod Pass
pub mod Code
