pub mod Pasting
pub mod Putting
pub mod Records
pub mod Taking
