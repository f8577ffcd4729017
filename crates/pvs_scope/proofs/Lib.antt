pub mod TableLaws
pub mod FormalLaws
pub mod SearchLaws
pub mod AddLaws
pub mod PlaceLaws
