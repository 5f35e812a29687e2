pub mod Tables
pub mod Table
