pub mod Descent
pub mod UnitDescent
pub mod Nests
pub mod Steps
pub mod Reading
