pub mod Examples
pub mod Looping
pub mod Short
