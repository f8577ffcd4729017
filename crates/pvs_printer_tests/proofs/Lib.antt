pub mod TreeLaws
pub mod TheoryLaws
