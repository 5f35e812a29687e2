pub mod Turn
pub mod Parts
pub mod Code
