pub mod Parts
pub mod Standing
pub mod InstancesView
pub mod Soundness
pub mod Faults
pub mod Grown
pub mod Visible
pub mod code
