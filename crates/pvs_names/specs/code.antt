pub mod Index
pub mod Visible
pub mod Places
