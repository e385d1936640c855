pub mod Replying
pub mod Short
pub mod Writing
