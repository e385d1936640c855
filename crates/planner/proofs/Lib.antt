pub mod Filling
pub mod Packing
pub mod Cutting
pub mod Short
