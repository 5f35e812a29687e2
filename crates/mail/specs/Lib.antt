pub mod Post
pub mod Letter
pub mod Gather
pub mod Gathered
