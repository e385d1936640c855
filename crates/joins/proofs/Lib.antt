pub mod Coalescing
pub mod Meaning
