pub mod Example
pub mod SmallTheory
