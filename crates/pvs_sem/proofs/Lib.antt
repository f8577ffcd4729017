pub mod SetLaws
pub mod PairLaws
pub mod OrderLaws
pub mod TableLaws
pub mod AscendingLaws
pub mod MeaningLaws
pub mod ReductLaws
pub mod ModelTruthLaws
