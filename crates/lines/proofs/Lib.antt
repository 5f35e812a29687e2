pub mod PutLaws
pub mod NumberLaws
pub mod LineLaws
