pub mod Conditions
pub mod Said
pub mod Answers
pub mod Rising
pub mod Counting
