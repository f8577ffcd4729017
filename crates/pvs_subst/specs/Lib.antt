pub mod Replace
pub mod Instance
pub mod Instances
pub mod Contexts
pub mod code
