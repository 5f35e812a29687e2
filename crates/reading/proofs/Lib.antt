pub mod CallLaws
pub mod Told
