pub mod Outside
pub mod Contents
pub mod Memory
pub mod Standard
