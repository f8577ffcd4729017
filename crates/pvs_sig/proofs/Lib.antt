pub mod DeclaredLaws
pub mod ScopeLaws
pub mod DevelopmentLaws
pub mod ReachLaws
pub mod ImportLaws
pub mod MentionLaws
pub mod OrderLaws
pub mod RemovalLaws
pub mod DistinctLaws
pub mod InstancesLaws
pub mod AdditionLaws
pub mod SignatureAtLaws
pub mod RankLaws
mod Examples
