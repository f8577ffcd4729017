pub mod AnswerLaws
pub mod ElabLaws
pub mod FinishedLaws
pub mod DeclarationLaws
pub mod NameLaws
pub mod SurfaceLaws
pub mod Examples
