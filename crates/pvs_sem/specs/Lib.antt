pub mod Truth
pub mod Value
pub mod Meaning
pub mod Reduct
pub mod Interpretations
pub mod Satisfies
pub mod ModelTruth
pub mod Laws
