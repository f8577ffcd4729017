pub mod ListLaws
pub mod PlaceLaws
pub mod BindingLaws
pub mod NumberLaws
pub mod SizeLaws
