pub mod Sequents
pub mod Outcomes
pub mod Conditions
pub mod Premises
pub mod Truth
pub mod Numbered
pub mod Numbers
pub mod Counts
