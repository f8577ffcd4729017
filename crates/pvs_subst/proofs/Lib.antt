pub mod ReplaceLaws
pub mod SortLaws
pub mod InstanceLaws
pub mod SizeLaws
pub mod Kept
pub mod MemoLaws
pub mod InstanceKept
pub mod ContextLaws
