pub mod Packed
pub mod Plan
