pub mod Leaning
pub mod Step
