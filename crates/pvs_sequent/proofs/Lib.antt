pub mod Lists
pub mod CountLaws
pub mod NumberLaws
pub mod PremiseLaws
pub mod Refutations
pub mod OutcomeLaws
pub mod ExtendsLaws
pub mod GoalLaws
