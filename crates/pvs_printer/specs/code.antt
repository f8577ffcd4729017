pub mod Steps
pub mod Tasks
pub mod TasksAt
pub mod RowsAt
