pub mod Measures
pub mod Refs
pub mod Shapes
pub mod StoreView
pub mod Texts
