pub mod CodeName
pub mod Place
pub mod Spans
pub mod Answers
