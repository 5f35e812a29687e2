pub mod ListLaws
pub mod RuleLaws
pub mod Told
