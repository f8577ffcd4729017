mod Examples
pub mod LongestLaws
pub mod Places
pub mod SpanLaws
pub mod TokenLaws
