pub mod Ranges
pub mod Neighbouring
pub mod Afterwards
pub mod Exact
pub mod Steps
pub mod Finding
