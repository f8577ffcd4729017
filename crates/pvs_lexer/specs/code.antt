pub mod Cursor
pub mod Scan
