pub mod PlaceLaws
pub mod TreeLaws
