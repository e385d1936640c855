pub mod Decimals
pub mod Displaying
pub mod Numerals
pub mod Writing
