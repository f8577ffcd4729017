pub mod CountLaws
pub mod FindingLaws
pub mod BindingLaws
pub mod ScopeLaws
pub mod SearchLaws
