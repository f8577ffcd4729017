pub mod ProvedLaws
pub mod OpenExample
