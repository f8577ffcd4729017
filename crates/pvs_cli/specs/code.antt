pub mod Shown
pub mod LemmaIndex
pub mod Reading
pub mod Writing
