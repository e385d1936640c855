pub mod Ladders
pub mod Refusals
