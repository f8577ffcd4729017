pub mod Answers
pub mod Keywords
pub mod Spans
pub mod Tokens
pub mod code
